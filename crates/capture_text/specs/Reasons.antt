-- The reasons of disconnects in words, each after a space; a number without a name has no words.
use Rattle.std.specs.Prelude.{ℕ, List, [], ◌∷◌, codes, Option, Some, None}
use Rattle.std.specs.Fmt.{decimal}
use Rattle.safe_pdu.specs.LeavingNumbers.{detail_numbered, reason_numbered}
use Rattle.safe_pdu.specs.declared.Leaving.{Leaving}
use Rattle.safe_pdu.specs.declared.reasons.Reason.{Reason}
use Rattle.safe_pdu.specs.declared.reasons.Reason.TheVariants.{ClosedByUser, UnexpectedPdu, SequenceError, Timeout, ServiceNotAllowed, WrongVersion, RetransmissionImpossible, ProtocolError}
use Rattle.safe_pdu.specs.declared.reasons.Detail.{Detail}
use Rattle.safe_pdu.specs.declared.reasons.Detail.TheVariants.{Unspecified, VersionDiffers, OutOfOrder, NotWellFormed, Limit, BadUnit, ConfirmedNumber, ConfirmedTimestamp}
use Rattle.pdu_text.specs.Lines.{join_pieces}

-- The words of a reason.
abbrev pub reason_word : Option Reason → List ℕ
reason_word (Some ClosedByUser) = codes " closed by user"
reason_word (Some UnexpectedPdu) = codes " unexpected PDU"
reason_word (Some SequenceError) = codes " sequence error"
reason_word (Some Timeout) = codes " timeout"
reason_word (Some ServiceNotAllowed) = codes " service not allowed"
reason_word (Some WrongVersion) = codes " wrong version"
reason_word (Some RetransmissionImpossible) = codes " retransmission impossible"
reason_word (Some ProtocolError) = codes " protocol error"
reason_word None = []

-- The words of a detail.
abbrev pub word_beside : Option Detail → List ℕ
word_beside (Some VersionDiffers) = codes " version differs"
word_beside (Some OutOfOrder) = codes " out of order"
word_beside (Some NotWellFormed) = codes " not of this pair"
word_beside (Some Limit) = codes " limit of PDUs"
word_beside (Some BadUnit) = codes " bad unit"
word_beside (Some ConfirmedNumber) = codes " confirmed number"
word_beside (Some ConfirmedTimestamp) = codes " confirmed timestamp"
word_beside (Some Unspecified) = []
word_beside None = []

-- The words of a detail, which depend on its reason.
abbrev pub detail_word : Option Reason → ℕ → List ℕ
detail_word (Some reason) detail = word_beside (detail_numbered reason detail)
detail_word None detail = []

-- Reason and detail, each with its number and words.
unfoldable pub leaving_words : Leaving → List ℕ
leaving_words l =
    join_pieces
    (codes " reason " ∷ decimal l.reason ∷ reason_word (reason_numbered l.reason) ∷ codes " detail " ∷ decimal l.detail
    ∷ detail_word (reason_numbered l.reason) l.detail ∷ [])
