use Rattle.safe_machine.proofs.Words.{◌≡◌, ◌+◌, take, octets_of, Out, resend_turn}
use Rattle.safe_machine.proofs.endpoint.MachineState.resend_all.Given as goal

abbrev pub invariant-loop-place : goal.invariant-loop-place
invariant-loop-place g l =
    let so_far = resend_turn (octets_of (take l.place l.fn.self.ring)) l.now l.fn.self in
    record {
      few : l.self.made ≡ l.fn.self.made + l.place;
      ring : l.self.ring ≡ l.fn.self.ring;
      left : l.self ≡ so_far.left;
      made : Out g.O.PduOut.makes l.fn.self.settings.rule l.fn.out so_far l.out;
    }
