-- Each clause of a promise refuses a world that all other clauses admit.
use Rattle.stack_engine.proofs.Words.{ap, arith, made_after, confirming_pdu, EndState, Fresh, FreshInstances, HeadlineInstances, inl, inr, Instances, IsBeginning}
use Rattle.stack_engine.proofs.Words.{Item, lit<, lit≤, Made, made_one, one, Pdu, refl, SettledInstances, State, subst, sym, two}
use Rattle.std.specs.Prelude.{[], Bool, drop, false, List, None, Option, Some, true, ℕ, ◌++◌, ◌+◌, ◌-◌, ◌<◌, ◌∷◌, ◌≡◌, ◌≤◌}
use Rattle.stack_engine.proofs.one.Sent.{nil-front}
use Rattle.stack_engine.proofs.rows.Drops.{differ, no-item, none-found, one-found}
use Rattle.stack_engine.proofs.rows.Forgery.{taken-from-nobody}

not-itself : (n : ℕ) → n < n → ⊥
not-itself n h = omega arith

not-below : 2 < 1 → ⊥
not-below h = omega arith

-- the byte that marks the first item
abbrev mark : List Item → ℕ
mark [] = 0
mark ((kind, []) ∷ items) = 0
mark ((kind, octet ∷ octets) ∷ items) = octet

abbrev are_two : List Item → Bool
are_two [] = false
are_two (item ∷ []) = false
are_two (item ∷ other ∷ items) = true

other-begins : IsBeginning (two ∷ []) (one ∷ two ∷ []) → ⊥
other-begins (rest, e) = differ 2 1 refl (ap mark e)

pub true-is-false : true ≡ false → ⊥
true-is-false e = cc

twice-begins : IsBeginning (one ∷ one ∷ []) (one ∷ []) → ⊥
twice-begins (rest, e) = true-is-false (ap are_two e)

abbrev number_or : Option ℕ → ℕ
number_or None = 0
number_or (Some n) = n

nothing-begins : (items : List Item) → IsBeginning [] items
nothing-begins items = (items, refl)

pub headline-instances : (x : EndState) → HeadlineInstances x
headline-instances x =
    record {
      fe_joined_to_none = record { refused = λ h. no-item one [] h.beginnings.0; joins_fall = (tt, tt); only_joined = tt };
      joined_to_nobody = record { refused = λ h. h.beginnings.0; joins_fall = (lit< tt, tt); only_joined = (inl refl, tt) };
      commands =
          record {
            refused = λ h. other-begins h.beginnings.0.0;
            joins_fall = (lit< tt, tt);
            only_joined = (inl refl, tt);
          };
      status =
          record {
            refused = λ h. twice-begins h.beginnings.0.1;
            joins_fall = (lit< tt, tt);
            only_joined = (inr (inl refl), tt);
          };
      joined_twice =
          record {
            refused = λ h. not-itself 1 h.joins_fall.1.0;
            beginnings = ((nothing-begins [], nothing-begins []), ((nothing-begins [], nothing-begins []), tt));
            only_joined = (inl refl, tt);
          };
      joined_back =
          record {
            refused = λ h. not-below h.joins_fall.1.0;
            beginnings = ((nothing-begins [], nothing-begins []), ((nothing-begins [], nothing-begins []), tt));
            only_joined = (inl refl, (inl refl, tt));
          };
      il_unjoined =
          record {
            refused = λ h. elim h.only_joined.0 [ inl e ↦ no-item one [] e | inr none ↦ none ];
            beginnings = tt;
            joins_fall = tt;
          };
      other_joined =
          record {
            refused = λ h. elim h.only_joined.1.0
                [ inl e ↦ no-item one [] e | inr joined ↦ elim joined [ inl e ↦ differ 2 1 refl (ap number_or e) | inr none ↦ none ] ];
            beginnings = ((nothing-begins [], nothing-begins []), tt);
            joins_fall = (lit< tt, tt);
          };
    }

-- an item that neither waits nor is unconfirmed nor was taken
untaken : (confirmed : List Item) → IsBeginning confirmed [] → one ∷ [] ≡ confirmed ++ [] ++ [] → ⊥
untaken confirmed (rest, e) put =
    let none : confirmed ≡ [] = nil-front confirmed rest e in
    no-item one [] (subst (λ (c : List Item). one ∷ [] ≡ c ++ [] ++ []) none put)

unsettled : IsBeginning (one ∷ []) [] → ⊥
unsettled (rest, e) = no-item one rest e

pub settled-instances : (x : EndState) → SettledInstances x
settled-instances x =
    record {
      il_confirmed = ((λ h. untaken h.0.0 h.0.1 h.0.2), ([], nothing-begins [], refl));
      fe_confirmed = ((λ h. untaken h.1.0 h.1.1 h.1.2), ([], nothing-begins [], refl));
      confirmed_to_none = λ h. untaken h.1.0 h.1.1 h.1.2;
      il_settled = ((λ h. unsettled (h.0 refl)), (λ settled. nothing-begins []));
      fe_settled = ((λ h. unsettled (h.1 refl)), (λ settled. nothing-begins []));
      settled_to_none = λ h. unsettled (h.1 refl);
      il_certain = ((λ h. unsettled h.0), nothing-begins []);
      fe_certain = ((λ h. unsettled h.1), nothing-begins []);
      certain_to_none = λ h. unsettled h.1;
    }

-- what is fresh upon the one PDU that the end made, carried by the one that the peer made
record FreshOfOne (s : State) (p : Pdu) (now : ℕ) (c b : Made) : Type 0 where
  is : c.pdu ≡ p
  has_basis : 1 ≤ c.behind
  found : (rest : List Made) × (drop (c.behind - 1) s.made ≡ b ∷ rest)
  number : b.pdu.sn ≡ p.cs
  stamp : b.pdu.ts ≡ p.cts
  recent : now < b.time + s.settings.t_max

fresh-of-one : (s : State) (p : Pdu) (now : ℕ) (c b : Made) → s.made ≡ b ∷ [] → Fresh s p now (c ∷ []) → FreshOfOne s p now c b
fresh-of-one s p now c b made h =
    let carrier : h.carrier ≡ c = sym (one-found h.index c h.carrier h.rest h.at) in
    let own : drop (h.carrier.behind - 1) (b ∷ []) ≡ h.basis ∷ h.own_rest = subst (λ (ms : List Made). drop (h.carrier.behind - 1) ms ≡ h.basis ∷ h.own_rest)
    made h.own_at in
    let basis : h.basis ≡ b = sym (one-found (h.carrier.behind - 1) b h.basis h.own_rest own) in
    record {
      is = subst (λ (m : Made). m.pdu ≡ p) carrier h.is;
      has_basis = subst (λ (m : Made). 1 ≤ m.behind) carrier h.has_basis;
      found = (
        h.own_rest,
        subst (λ (m : Made). drop (m.behind - 1) s.made ≡ b ∷ h.own_rest) carrier
            (subst (λ (m : Made). drop (h.carrier.behind - 1) s.made ≡ m ∷ h.own_rest) basis h.own_at),
      );
      number = subst (λ (m : Made). m.pdu.sn ≡ p.cs) basis h.number;
      stamp = subst (λ (m : Made). m.pdu.ts ≡ p.cts) basis h.stamp;
      recent = subst (λ (m : Made). now < m.time + s.settings.t_max) basis h.recent;
    }

abbrev basis_of : (sn ts : ℕ) → Made → Made
basis_of sn ts m = record { pdu = record m.pdu { sn = sn; ts = ts }; time = 100; behind = 0 }

none-behind : 1 ≤ 0 → ⊥
none-behind h = omega arith

too-late : 110 < 100 + 10 → ⊥
too-late h = omega arith

pub fresh-instances : (s : State) (m : Made) (p : Pdu) → FreshInstances s m p
fresh-instances s m p =
    record {
      holds =
          record {
            index = 0;
            carrier = made_after 1 (confirming_pdu p);
            rest = [];
            at = refl;
            is = refl;
            has_basis = lit≤ tt;
            basis = basis_of 7 8 m;
            own_rest = [];
            own_at = refl;
            number = refl;
            stamp = refl;
            recent = lit< tt;
          };
      made_by_nobody = λ h. none-found h.index h.carrier h.rest h.at;
      another_pdu = λ h. differ 9 8 refl
          (ap (λ (q : Pdu). q.cts) (fresh-of-one (made_one 7 8 s m) (confirming_pdu p) 109 (made_after 1 (record p { cs = 7; cts = 9 })) (basis_of 7 8 m) refl h).is);
      upon_none = λ h. none-behind (fresh-of-one (made_one 7 8 s m) (confirming_pdu p) 109 (made_after 0 (confirming_pdu p)) (basis_of 7 8 m) refl h).has_basis;
      upon_unmade = λ h. let found = (fresh-of-one (made_one 7 8 s m) (confirming_pdu p) 109 (made_after 2 (confirming_pdu p)) (basis_of 7 8 m) refl h).found in
          no-item (basis_of 7 8 m) found.0 (sym found.1);
      other_number = λ h. differ 6 7 refl (fresh-of-one (made_one 6 8 s m) (confirming_pdu p) 109 (made_after 1 (confirming_pdu p)) (basis_of 6 8 m) refl h).number;
      other_stamp = λ h. differ 9 8 refl (fresh-of-one (made_one 7 9 s m) (confirming_pdu p) 109 (made_after 1 (confirming_pdu p)) (basis_of 7 9 m) refl h).stamp;
      late = λ h. too-late (fresh-of-one (made_one 7 8 s m) (confirming_pdu p) 110 (made_after 1 (confirming_pdu p)) (basis_of 7 8 m) refl h).recent;
    }

pub instances : Instances
instances = record { headline = headline-instances; settled = settled-instances; fresh = fresh-instances; taken_from_nobody = taken-from-nobody }
