-- Each telegram that is added has a message.
use Rattle.std.proofs.Common.{◌≡◌, ℕ, ◌+◌, ◌<◌, ◌≤◌, ◌^◌, Bool, true, false, not, cond, List, [], ◌∷◌, ◌++◌, length, Some, None, refl, sym, arith, nat_le, nat_lt}
use Rattle.std.specs.Prelude.{is_none}
use Rattle.std.specs.List.{AllByRecursion}
use Rattle.std.proofs.lemmas.Bool.{ltb-false, true≢false}
use Rattle.std.proofs.lemmas.List.{length-append}
use Rattle.byteorder.specs.Endian.{little_bytes}
use Rattle.octets.specs.declared.limits.TheConstants.{PAYLOAD_MAX}
use Rattle.pdi_session.specs.telegram.Names.{fill_name}
use Rattle.pdi_session.specs.telegram.Tele.{Tele}
use Rattle.pdi_session.specs.telegram.TeleText.{TeleText, tele_text}
use Rattle.pdi_session.proofs.TeleLemmas.{length-filled, tele_read}
use Rattle.octets.specs.declared.limits.TheConstants.{WAITING_MAX}
use Rattle.pdi_session.specs.declared.TheConstants.{CHECKSUM_MAX}
use Rattle.pdi_session.specs.declared.Notice.{Notice}
use Rattle.pdi_session.specs.declared.Notice.TheVariants as notice
use Rattle.pdi_session.specs.declared.Verdict.{Verdict}
use Rattle.pdi_session.specs.declared.Verdict.TheVariants.{Takes, Goes, Answers, Ends}
use Rattle.pdi_session.specs.declared.PutFault.TheVariants as fault
use Rattle.pdi_session.specs.Settings.{AreSettings, checksum_of}
use Rattle.pdi_session.specs.Telegrams.{is_reserved, kind_of, payload_of, telegram}
use Rattle.pdi_session.specs.Tables.{may_put}
use Rattle.pdi_session.specs.SessionStep.{Up, Arrives, Puts, InitDone, Closes, SessionState, at_init_done, judge_telegram, init_refusal, put_refusal, sent_by}
use Rattle.pdi_session.specs.Laws.{HasMessage, MessageLaw}
use Rattle.pdi_session.proofs.one.TableLemmas.{by_cond}

length-tele_text : (t : Tele) → TeleText t (tele_text t) → length (tele_text t) ≡ 43 + length t.payload
length-tele_text t text =
    let front : List ℕ = (t.protocol ∷ []) ++ little_bytes 2 t.kind in
    let named : List ℕ = front ++ fill_name t.sender in
    omega (
      arith,
      length-append (named ++ fill_name t.receiver) t.payload,
      length-append named (fill_name t.receiver),
      length-append front (fill_name t.sender),
      length-filled t.sender text.sender,
      length-filled t.receiver text.receiver,
    )

has_message : (s : SessionState) (kind : ℕ) (payload : List ℕ) → AreSettings s.addressing s.role → kind < 256 ^ 2
    → length payload ≤ PAYLOAD_MAX → HasMessage (telegram s.addressing kind payload)
has_message s kind payload set small short =
    let t : Tele = telegram s.addressing kind payload in
    let text : TeleText t (tele_text t) = record {
      protocol = set.protocol;
      kind = small;
      sender = set.own;
      receiver = set.peer;
      payload = short;
      spelled = refl;
    } in
    let long = length-tele_text t text in
    record { sized = (omega (arith, long), omega (arith, long, short)); read = tele_read t (tele_text t) text }

notice_kind : (n : Notice) → kind_of n < 256 ^ 2
notice_kind (notice.VersionCheck version) = omega arith
notice_kind (notice.VersionEqual version) = omega arith
notice_kind (notice.VersionDiffers version) = omega arith
notice_kind notice.InitialisationRequest = omega arith
notice_kind notice.StartInitialisation = omega arith
notice_kind notice.InitialisationCompleted = omega arith

notice_payload : (checksum : List ℕ) (n : Notice) → length checksum ≤ CHECKSUM_MAX
    → length (payload_of checksum n) ≤ PAYLOAD_MAX
notice_payload checksum (notice.VersionCheck version) short = omega arith
notice_payload checksum (notice.VersionEqual version) short = omega (arith, short)
notice_payload checksum (notice.VersionDiffers version) short = omega arith
notice_payload checksum notice.InitialisationRequest short = omega arith
notice_payload checksum notice.StartInitialisation short = omega arith
notice_payload checksum notice.InitialisationCompleted short = omega arith

sent_messages : (s : SessionState) (verdict : Verdict) → AreSettings s.addressing s.role
    → AllByRecursion HasMessage (sent_by s verdict)
sent_messages s Takes set = tt
sent_messages s (Goes next) set = tt
sent_messages s (Answers next n) set = (
  has_message s (kind_of n) (payload_of (checksum_of s.role) n) set (notice_kind n)
      (notice_payload (checksum_of s.role) n set.checksum),
  tt,
)
sent_messages s (Ends why) set = tt

put_short : (payload : List ℕ) (a b c : Bool)
    → is_none (cond (not a) (Some fault.NotEstablished)
    (cond b (Some fault.Full) (cond c (Some fault.ReservedType)
    (cond (nat_lt PAYLOAD_MAX (length payload)) (Some fault.TooLong) None)))) ≡ true
    → length payload ≤ PAYLOAD_MAX
put_short payload true false false none = by_cond (λ x. is_none x ≡ true → length payload ≤ PAYLOAD_MAX)
    (nat_lt PAYLOAD_MAX (length payload)) _ _ (λ _ some. absurd (true≢false (sym some)))
    (λ short _. ltb-false PAYLOAD_MAX (length payload) short) none
put_short payload true false true none = absurd (true≢false (sym none))
put_short payload true true c none = absurd (true≢false (sym none))
put_short payload false b c none = absurd (true≢false (sym none))

pub message_law : MessageLaw
message_law s Up set small = sent_messages s _ set
message_law s (Arrives t) set small = sent_messages s (judge_telegram s t) set
message_law s (Puts kind payload waits) set small =
    by_cond (AllByRecursion HasMessage) (is_none (put_refusal s kind payload waits)) _ _
    (λ none. (
      has_message s kind payload set small
          (put_short payload (may_put s.role s.phase) (nat_le WAITING_MAX waits) (is_reserved kind) none),
      tt,
    )) (λ _. tt)
message_law s (InitDone waits) set small = by_cond (AllByRecursion HasMessage) (is_none (init_refusal s waits)) _ _
    (λ _. sent_messages s at_init_done set) (λ _. tt)
message_law s Closes set small = tt
