-- The laws of the session's rows.
use Rattle.std.proofs.Common.{◌≡◌, ◌≢◌, ℕ, ◌<◌, Bool, true, false, not, cond, List, [], ◌∷◌, length, Some, None, refl, sym, ap, ◌∙◌, arith, nat_le, nat_lt}
use Rattle.std.specs.Prelude.{is_none}
use Rattle.std.proofs.lemmas.Bool.{false≢true}
use Rattle.std.proofs.lemmas.List.{length-append}
use Rattle.pdi_session.specs.telegram.Tele.{Tele}
use Rattle.octets.specs.declared.limits.TheConstants.{WAITING_MAX}
use Rattle.pdi_session.specs.declared.Phase.{Phase}
use Rattle.pdi_session.specs.declared.Phase.TheVariants.{Idle, Checking, Requesting, AwaitCheck, AwaitRequest, Refused, Initialising, Established, Ended}
use Rattle.pdi_session.specs.declared.SessionDetail.{SessionDetail}
use Rattle.pdi_session.specs.declared.SessionDetail.TheVariants as detail
use Rattle.pdi_session.specs.declared.Notice.{Notice}
use Rattle.pdi_session.specs.declared.Notice.TheVariants as notice
use Rattle.pdi_session.specs.declared.Form.TheVariants.{Notifies, Item}
use Rattle.pdi_session.specs.declared.Verdict.{Verdict}
use Rattle.pdi_session.specs.declared.Verdict.TheVariants.{Takes, Goes, Answers, Ends}
use Rattle.pdi_session.specs.declared.PutFault.TheVariants as fault
use Rattle.pdi_session.specs.Settings.{Role, Interlocking, Field}
use Rattle.pdi_session.specs.Telegrams.{form_of, is_addressed, is_reserved}
use Rattle.pdi_session.specs.Tables.{table, may_put, is_early}
use Rattle.pdi_session.specs.SessionStep.{InitDone, SessionState, added_by, at_init_done, end_of, item_of, judge_telegram, notice_tele, init_refusal, sent_by, taken_as, most_waiting}
use Rattle.pdi_session.specs.Laws.{AreReserved, TakesLaw, GoesLaw, OwnLaw, PutLaw, RoomLaw}
use Rattle.pdi_session.proofs.one.TableLemmas.{by_cond}
use Rattle.pdi_session.proofs.one.Rows.{InterlockingRow, IlOver, IlEqual, IlBegins, IlInitial, IlDone, IlStatus, FieldRow, FeOver, FeEqual, FeDiffers, FeAsked, FeCommand, interlocking_row, field_row, reserved_of, item_of_form, reserved_notice}

-- the possible verdicts on a telegram
pub data Outcome (t : Tele) (verdict : Verdict) : Type 0 where
  Closed : (why : SessionDetail) → verdict ≡ Ends why → Outcome t verdict
  Went : (n : Notice) → form_of t.kind t.payload ≡ Notifies n → (next : Phase) → verdict ≡ Goes next → Outcome t verdict
  Answered : (n : Notice) → form_of t.kind t.payload ≡ Notifies n → (next : Phase) → (answer : Notice)
      → verdict ≡ Answers next answer → Outcome t verdict
  Took : form_of t.kind t.payload ≡ Item → verdict ≡ Takes → Outcome t verdict

of_interlocking : (t : Tele) (own : ℕ) (phase : Phase) (verdict : Verdict)
    → InterlockingRow own phase (form_of t.kind t.payload) verdict → Outcome t verdict
of_interlocking t own phase verdict (IlOver why e) = Closed why e
of_interlocking t own phase verdict (IlEqual p f e) =
    Answered (notice.VersionEqual own) f Requesting notice.InitialisationRequest e
of_interlocking t own phase verdict (IlBegins p f e) = Went notice.StartInitialisation f Initialising e
of_interlocking t own phase verdict (IlInitial p f e) = Took f e
of_interlocking t own phase verdict (IlDone p f e) = Went notice.InitialisationCompleted f Established e
of_interlocking t own phase verdict (IlStatus p f e) = Took f e

of_field : (t : Tele) (versions : List ℕ) (phase : Phase) (verdict : Verdict)
    → FieldRow versions phase (form_of t.kind t.payload) verdict → Outcome t verdict
of_field t versions phase verdict (FeOver why e) = Closed why e
of_field t versions phase verdict (FeEqual version p f e) =
    Answered (notice.VersionCheck version) f AwaitRequest (notice.VersionEqual version) e
of_field t versions phase verdict (FeDiffers version p f e) = Answered (notice.VersionCheck version) f Refused _ e
of_field t versions phase verdict (FeAsked p f e) =
    Answered notice.InitialisationRequest f Initialising notice.StartInitialisation e
of_field t versions phase verdict (FeCommand p f e) = Took f e

of_table : (t : Tele) (role : Role) (phase : Phase) → Outcome t (table role phase (form_of t.kind t.payload))
of_table t (Interlocking version) phase =
    of_interlocking t version phase _ (interlocking_row version phase (form_of t.kind t.payload))
of_table t (Field versions checksum) phase =
    of_field t versions phase _ (field_row versions phase (form_of t.kind t.payload))

pub outcome : (s : SessionState) (t : Tele) → Outcome t (judge_telegram s t)
outcome s t = by_cond (Outcome t) (is_addressed s.addressing t) _ _ (λ _. of_table t s.role s.phase)
    (λ _. Closed detail.NotOfThisPair refl)

takes_by : (t : Tele) (verdict : Verdict) → Outcome t verdict → taken_as t verdict ≢ [] → (is_reserved t.kind ≡ false)
    × (taken_as t verdict ≡ item_of t ∷ [])
takes_by t verdict (Closed why e) some = absurd (some (ap (taken_as t) e))
takes_by t verdict (Went n f next e) some = absurd (some (ap (taken_as t) e))
takes_by t verdict (Answered n f next answer e) some = absurd (some (ap (taken_as t) e))
takes_by t verdict (Took f e) some = (item_of_form t.kind t.payload f, ap (taken_as t) e)

pub takes_law : TakesLaw
takes_law s t some = takes_by t (judge_telegram s t) (outcome s t) some

none_reserved : AreReserved []
none_reserved = tt

one_reserved : (s : SessionState) (n : Notice) → AreReserved (notice_tele s n ∷ [])
one_reserved s n = (reserved_notice n, tt)

sent_reserved : (s : SessionState) (verdict : Verdict) → AreReserved (sent_by s verdict)
sent_reserved s Takes = none_reserved
sent_reserved s (Goes next) = none_reserved
sent_reserved s (Answers next n) = one_reserved s n
sent_reserved s (Ends why) = none_reserved

goes_by : (t : Tele) (verdict : Verdict) → Outcome t verdict → end_of verdict ≡ None → taken_as t verdict ≡ []
    → is_reserved t.kind ≡ true
goes_by t verdict (Closed why e) on none = let over : Some why ≡ None = sym (ap end_of e) ∙ on in cc
goes_by t verdict (Went n f next e) on none = reserved_of t.kind t.payload n f
goes_by t verdict (Answered n f next answer e) on none = reserved_of t.kind t.payload n f
goes_by t verdict (Took f e) on none = let some : item_of t ∷ [] ≡ [] = sym (ap (taken_as t) e) ∙ none in cc

pub goes_law : GoesLaw
goes_law s t on none = (goes_by t (judge_telegram s t) (outcome s t) on none, sent_reserved s (judge_telegram s t))

own_done : (s : SessionState) (waits : ℕ) → AreReserved (added_by (InitDone waits) s)
own_done s waits =
    by_cond AreReserved (is_none (init_refusal s waits)) _ _ (λ _. sent_reserved s at_init_done) (λ _. none_reserved)

pub own_law : OwnLaw
own_law s = (sent_reserved s _, own_done s, λ t. sent_reserved s (judge_telegram s t))

put_by_tests : (s : SessionState) (kind : ℕ) (payload : List ℕ) (a b c d : Bool) → is_reserved kind ≡ c
    → cond (not a) (Some fault.NotEstablished)
    (cond b (Some fault.Full) (cond c (Some fault.ReservedType) (cond d (Some fault.TooLong) None))) ≡ None
    → is_reserved kind ≡ false
put_by_tests s kind payload true false false d is none = is
put_by_tests s kind payload true false true d is none = cc
put_by_tests s kind payload true true c d is none = cc
put_by_tests s kind payload false b c d is none = cc

pub put_law : PutLaw
put_law s kind payload waits none = (
  put_by_tests s kind payload (may_put s.role s.phase) (nat_le WAITING_MAX waits) (is_reserved kind)
      (nat_lt _ (length payload)) refl none,
  rw none refl,
)

early_room : (phase : Phase) → is_early phase ≡ true → most_waiting phase < WAITING_MAX
early_room Idle is = omega arith
early_room Checking is = omega arith
early_room Requesting is = omega arith
early_room AwaitCheck is = omega arith
early_room AwaitRequest is = omega arith
early_room Refused is = omega arith
early_room Initialising is = absurd (false≢true is)
early_room Established is = absurd (false≢true is)
early_room Ended is = absurd (false≢true is)

pub room_law : RoomLaw
room_law = (
  λ addressing role. omega arith,
  λ s waiting few is. (let early = early_room s.phase is in omega (arith, few)),
  λ s gone waiting few. omega (arith, few, length-append gone waiting),
)
