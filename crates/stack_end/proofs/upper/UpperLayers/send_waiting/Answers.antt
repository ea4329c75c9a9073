use Rattle.stack_end.proofs.Words.{ap, arith, Bool, fields_of, turn_then, if◌then◌else◌, pack_once_turn, refl, send_turn, still, subst, sym, ◌∙◌, ◌≤◌}
use Rattle.stack_end.proofs.CallParts.{alone-as, alone-still, alone-then, keeps-none, keeps-then}
use Rattle.stack_end.proofs.Deliveries.{sends-more, turn-fewer}
use Rattle.stack_end.proofs.upper.UpperLayers.send_waiting.Goals as goal

pub loop-packs-smaller : goal.loop-packs-smaller
loop-packs-smaller g c =
    turn-fewer _ _ c.loop-packs.packs c.pack_one-packs.result c.loop-packs-test.true c.pack_one-packs.ensures.fewer

pub loop-packs-init : goal.loop-packs-init
loop-packs-init g c =
    let v = fields_of c.args.self.now in
    record {
      some = c.requires.some;
      most = c.requires.most;
      keeps = keeps-none _;
      along = (still v, alone-still v _, refl);
    }

pub loop-packs-preserved : goal.loop-packs-preserved
loop-packs-preserved g c =
    let now = c.args.now in
    let before = c.loop-packs.invariant in
    let t = before.along.0 in
    let one = c.pack_one-packs.ensures in
    record {
      some = subst (λ n. 1 ≤ n) (sym one.keeps.same) before.some;
      most = let m = before.most in let e = one.keeps.same in omega (arith, e, m);
      keeps = keeps-then 0 0 _ _ _ before.keeps one.keeps;
      along = (
        turn_then t (pack_once_turn now),
        alone-then t (pack_once_turn now) _ _ _ _ _ before.along.1 one.does,
        sends-more now t (send_turn now (fields_of c.args.self.now)) (fields_of c.loop-packs.self) c.loop-packs.packs
            c.pack_one-packs.result before.some
            before.along.1.left c.loop-packs-test.true one.packs before.along.2,
      );
    }

pub returns-clause-does : goal.returns-clause-does
returns-clause-does g c =
    let now = c.args.now in
    let along = c.loop-packs.invariant.along in
    let t = along.0 in
    let all = along.2 ∙ ap (λ (b : Bool). if b then turn_then t (send_turn now) else t) c.loop-packs-test.false in
    alone-as t (send_turn now (fields_of c.args.self.now)) _ _ _ (sym all) along.1
