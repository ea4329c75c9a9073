-- Of two sessions that receive each other's queues, a telegram ends neither once its peer has put something.
use Rattle.std.proofs.Common.{◌≡◌, ℕ, suc, ◌≤◌, ◌==◌, Bool, true, false, ◌&&◌, List, [], ◌∷◌, ◌++◌, length, drop, get_or, refl, sym, ap, ◌∙◌, arith, subst, ⊎_elim, append_assoc, nat_le}
use Rattle.std.specs.Prelude.{is_none}
use Rattle.std.specs.Str.{bytes_eq}
use Rattle.std.specs.List.{AllByRecursion}
use Rattle.std.proofs.lemmas.Bool.{eqb-true, eq-eqb, le-leb, false≢true, true≢false}
use Rattle.std.proofs.lemmas.Slice.Eq.{bytes_eq-Decides}
use Rattle.octets.specs.Lists.{IsBeginning}
use Rattle.pdi_session.specs.telegram.Tele.{Tele}
use Rattle.pdi_session.specs.declared.TheConstants.{CHECKSUM_MAX}
use Rattle.pdi_session.specs.declared.Phase.{Phase}
use Rattle.pdi_session.specs.declared.Notice.TheVariants as notice
use Rattle.pdi_session.specs.declared.Form.{Form}
use Rattle.pdi_session.specs.declared.Form.TheVariants.{Notifies, Item, OtherPayload}
use Rattle.pdi_session.specs.declared.Verdict.{Verdict}
use Rattle.pdi_session.specs.Settings.{Addressing, Role, Interlocking, Field, checksum_of}
use Rattle.pdi_session.specs.Telegrams.{form_of, is_addressed, is_reserved, kind_of, payload_of, telegram}
use Rattle.pdi_session.specs.Tables.{table}
use Rattle.pdi_session.specs.SessionStep.{SessionState, end_of, judge_telegram}
use Rattle.pdi_session.specs.Histories.{History}
use Rattle.pdi_session.proofs.one.Rows.{FormKind, form_kind, reserved_notice}
use Rattle.pdi_session.proofs.one.Shapes.{All-next, FeAt, Heard, IlAt, IlPast, base, check_from, equal_from, il_past, request_from}

-- the settings of two ends match
pub record Crossed (a b : Addressing) : Type 0 where
  pub protocol : a.protocol ≡ b.protocol
  pub own : a.own ≡ b.peer
  pub peer : a.peer ≡ b.own

pub all_three : (x y z : Bool) → (x && y && z) ≡ true → (x ≡ true) × (y ≡ true) × (z ≡ true)
all_three true true true h = (refl, refl, refl)
all_three true true false h = absurd (false≢true h)
all_three true false z h = absurd (false≢true h)
all_three false y z h = absurd (false≢true h)

pub crossed_of : (a b : Addressing) (kind : ℕ) (payload : List ℕ) → is_addressed b (telegram a kind payload) ≡ true
    → Crossed a b
crossed_of a b kind payload is =
    let parts = all_three (a.protocol == b.protocol) (bytes_eq a.own b.peer) (bytes_eq a.peer b.own) is in
    record {
      protocol = eqb-true a.protocol b.protocol parts.0;
      own = (bytes_eq-Decides a.own b.peer).0 parts.1;
      peer = (bytes_eq-Decides a.peer b.own).0 parts.2;
    }

-- so each accepts the other's telegrams as those of its peer
pub to_field : (a b : Addressing) (kind : ℕ) (payload : List ℕ) → Crossed a b
    → is_addressed b (telegram a kind payload) ≡ true
to_field a b kind payload c =
    let p : (a.protocol == b.protocol) ≡ true = eq-eqb a.protocol b.protocol c.protocol in
    let o : bytes_eq a.own b.peer ≡ true = (bytes_eq-Decides a.own b.peer).1 c.own in
    let q : bytes_eq a.peer b.own ≡ true = (bytes_eq-Decides a.peer b.own).1 c.peer in
    rw (p, o, q) refl

pub to_interlocking : (a b : Addressing) (kind : ℕ) (payload : List ℕ) → Crossed a b
    → is_addressed a (telegram b kind payload) ≡ true
to_interlocking a b kind payload c =
    to_field b a kind payload (record { protocol = sym c.protocol; own = sym c.peer; peer = sym c.own })

-- the decision on a telegram for this end with this form
pub decides : (s : SessionState) (t : Tele) (role : Role) (phase : Phase) (form : Form) → s.role ≡ role
    → s.phase ≡ phase → is_addressed s.addressing t ≡ true → form_of t.kind t.payload ≡ form
    → judge_telegram s t ≡ table role phase form
decides s t role phase form r p from says = rw from (ap (λ x. table x s.phase (form_of t.kind t.payload)) r
    ∙ ap (λ x. table role x (form_of t.kind t.payload)) p ∙ ap (table role phase) says)

pub goes_on : (s : SessionState) (t : Tele) (verdict : Verdict) → judge_telegram s t ≡ verdict
    → is_none (end_of verdict) ≡ true → is_none (end_of (judge_telegram s t)) ≡ true
goes_on s t verdict e is = ap (λ v. is_none (end_of v)) e ∙ is

-- the form of a message type that is not reserved
pub free_form : (kind : ℕ) (payload : List ℕ) → is_reserved kind ≡ false → form_of kind payload ≡ Item
free_form kind payload free = by (form_of kind payload) (form_kind kind payload)
  where
    by : (form : Form) → FormKind kind form → form ≡ Item
    by (Notifies n) is = absurd (true≢false (sym (ap is_reserved is ∙ reserved_notice n) ∙ free))
    by Item is = refl
    by OtherPayload is = absurd (true≢false (sym is ∙ free))

-- prefixes
pub none_begins : {X : Type 0} (xs : List X) → IsBeginning xs [] → xs ≡ []
none_begins [] b = refl
none_begins (x ∷ xs) b = let long : suc (length (xs ++ b.0)) ≡ 0 = ap length b.1 in absurd (omega (arith, long))

pub begins_longer : {X : Type 0} (xs ys zs : List X) → IsBeginning xs ys → IsBeginning xs (ys ++ zs)
begins_longer xs ys zs b = (b.0 ++ zs, sym (append_assoc xs b.0 zs) ∙ ap (λ l. l ++ zs) b.1)

pub first_same : (a b : Tele) (xs ys : List Tele) → a ∷ xs ≡ b ∷ ys → a ≡ b
first_same a b xs ys e = ap (λ l. get_or l 0 a) e

-- the telegram after one
pub second_is : (js : List Tele) (t p q : Tele) (rest qs : List Tele) → length js ≡ 1
    → (js ++ t ∷ []) ++ rest ≡ p ∷ q ∷ qs → t ≡ q
second_is [] t p q rest qs one e = absurd (omega (arith, one))
second_is (a ∷ []) t p q rest qs one e = ap (λ l. get_or l 1 t) e
second_is (a ∷ b ∷ js) t p q rest qs one e = absurd (omega (arith, one))

-- the telegram after two or more has the property of all after two
pub later_has : (P : Tele → Type 0) (js : List Tele) (t p q : Tele) (rest qs : List Tele) → 2 ≤ length js
    → (js ++ t ∷ []) ++ rest ≡ p ∷ q ∷ qs → AllByRecursion P qs → P t
later_has P [] t p q rest qs two e all = absurd (omega (arith, two))
later_has P (a ∷ []) t p q rest qs two e all = absurd (omega (arith, two))
later_has P (a ∷ b ∷ js) t p q rest qs two e all =
    let same : (js ++ t ∷ []) ++ rest ≡ qs = ap (drop 2) e in
    All-next P js t rest (subst (AllByRecursion P) (sym same ∙ append_assoc js (t ∷ []) rest) all)

-- a reply of equal versions is read as one
pub equal_says : (version : ℕ) (checksum : List ℕ) (s : SessionState) (versions : List ℕ)
    → s.role ≡ Field versions checksum → length checksum ≤ CHECKSUM_MAX
    → form_of (equal_from version s).kind (equal_from version s).payload ≡ Notifies (notice.VersionEqual version)
equal_says version checksum s versions role short =
    subst (λ r. form_of (kind_of (notice.VersionEqual version))
    (payload_of (checksum_of r) (notice.VersionEqual version)) ≡ Notifies (notice.VersionEqual version)) (sym role)
    (let fits : nat_le (length checksum) CHECKSUM_MAX ≡ true = le-leb (length checksum) CHECKSUM_MAX short in
    let same : (length checksum == length checksum) ≡ true = eq-eqb (length checksum) (length checksum) refl in
    rw (fits, same) refl)

-- the versions of notices
abbrev pub said_version : Form → ℕ
said_version (Notifies (notice.VersionCheck version)) = version
said_version (Notifies (notice.VersionEqual version)) = version
said_version form = 0

abbrev pub is_equal : Form → Bool
is_equal (Notifies (notice.VersionEqual version)) = true
is_equal form = false

-- the histories of two sessions, with the facts of the tables on both
pub record Joint (version : ℕ) (versions checksum : List ℕ) (x y : History) : Type 0 where
  pub il_role : x.state.role ≡ Interlocking version
  pub fe_role : y.state.role ≡ Field versions checksum
  pub short : length checksum ≤ CHECKSUM_MAX
  pub il_at : IlAt version (base x.state) x.state.phase x.queue x.judged
  pub fe_at : FeAt (base y.state) y.state.phase y.queue y.judged
  pub il_hears : IsBeginning x.judged y.queue
  pub fe_hears : IsBeginning y.judged x.queue

-- the first telegram that a field element has judged has the interlocking's version
pub checked : (version : ℕ) (s : SessionState) (queue js : List Tele) (first : Tele) (others : List Tele)
    → IlPast version s queue js → IsBeginning (first ∷ others) queue → first ≡ check_from version s
checked version s queue js first others past begins =
    ⊎_elim (λ none. absurd (nothing (subst (IsBeginning (first ∷ others)) none begins)))
    (λ some. ⊎_elim (λ one. first_same first (check_from version s) (others ++ begins.0) [] (begins.1 ∙ one))
    (λ asked. first_same first (check_from version s) (others ++ begins.0) (request_from s ∷ asked.commands) (begins.1
    ∙ asked.is)) some) past
  where
    nothing : IsBeginning (first ∷ others) [] → ⊥
    nothing b = let long : suc (length (others ++ b.0)) ≡ 0 = ap length b.1 in omega (arith, long)

-- so the settings fit, and the version that it judged is the interlocking's
pub record Met (version asked : ℕ) (a b : Addressing) : Type 0 where
  pub crossed : Crossed a b
  pub same : version ≡ asked

pub met : (version : ℕ) (versions checksum : List ℕ) (x y : History) (asked : ℕ) → Joint version versions checksum x y
    → Heard asked (base y.state) y.judged → Met version asked x.state.addressing y.state.addressing
met version versions checksum x y asked j heard =
    let first_is : heard.first ≡ check_from version (base x.state) =
    checked version (base x.state) x.queue x.judged heard.first heard.others
    (il_past version (base x.state) x.state.phase x.queue x.judged j.il_at)
    (subst (λ l. IsBeginning l x.queue) heard.is j.fe_hears)
    in
    record {
      crossed = crossed_of x.state.addressing y.state.addressing (check_from version (base x.state)).kind
          (check_from version (base x.state)).payload
          (subst (λ t. is_addressed y.state.addressing t ≡ true) first_is heard.from);
      same = sym (ap (λ t. said_version (form_of t.kind t.payload)) first_is) ∙ ap said_version heard.says;
    }
