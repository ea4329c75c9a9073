-- A PDU is named in the list that is kept.
use Rattle.std.proofs.Common.{◌≡◌, ◌<◌, ℕ, List, [], length, map, get_or, set, ◌∙◌, sym, ap, true}
use Rattle.std.proofs.lemmas.List.{map-set, get_or-map}
use Rattle.sim.specs.MadePdus.{MadePdu, new_pdu, mark_named_at, with_name}
use Rattle.sim.specs.MadePdusView.{pdu_seen}
use Rattle.sim.specs.declared.made_pdus.Pdu.{Pdu}

pub named_where_kept : {A : Type 0} (ps : List (Pdu A)) (place : ℕ) (p : Pdu A) → place < length ps
    → p ≡ get_or ps place p
    → map pdu_seen (set ps place (record { datagram = p.datagram; is_named = true }))
    ≡ mark_named_at place (map pdu_seen ps)
named_where_kept {A} ps place p within is =
    let seen : get_or (map pdu_seen ps) place (new_pdu []) ≡ pdu_seen p =
    get_or-map (pdu_seen {A = A}) ps place p (new_pdu []) within ∙ ap (pdu_seen {A = A}) (sym is) in
    map-set (pdu_seen {A = A}) ps place _ ∙ ap (λ (q : MadePdu). set (map (pdu_seen {A = A}) ps) place (with_name q))
    (sym seen)
