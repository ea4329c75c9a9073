-- The text of what is remarkable in a PDU.
use Rattle.std.specs.Prelude.{ℕ, Bool, true, false, List, [], ◌∷◌, ◌++◌, codes, if◌then◌else◌, Option, Some, None}
use Rattle.std.specs.Fmt.{decimal}
use Rattle.safe_pdu.specs.declared.Leaving.{Leaving}
use Rattle.capture.specs.declared.direction.Remarks.{Remarks}
use Rattle.capture.specs.declared.window.NumberOrder.{NumberOrder}
use Rattle.pdu_text.specs.Lines.{join_pieces}
use Rattle.capture_text.specs.Choice.{is_half}
use Rattle.capture_text.specs.Reasons.{leaving_words}
use Rattle.capture.specs.declared.window.NumberOrder.TheVariants.{First, Next, Ahead, Late, Repeat, Differs, Stale, Anew}

-- How a number followed; nothing for the first and the next.
abbrev pub number_order_text : List ℕ → NumberOrder → List ℕ
number_order_text name First = []
number_order_text name Next = []
number_order_text name (Ahead passed) = join_pieces (codes " " ∷ name ∷ codes " ahead " ∷ decimal passed ∷ [])
number_order_text name Late = join_pieces (codes " " ∷ name ∷ codes " late" ∷ [])
number_order_text name (Repeat line) = join_pieces (codes " " ∷ name ∷ codes " repeat of line " ∷ decimal line ∷ [])
number_order_text name (Differs line) = join_pieces (codes " " ∷ name ∷ codes " differs from line " ∷ decimal line ∷ [])
number_order_text name Stale = join_pieces (codes " " ∷ name ∷ codes " stale" ∷ [])
number_order_text name Anew = join_pieces (codes " " ∷ name ∷ codes " anew" ∷ [])

-- How a number followed, if it was judged.
abbrev pub maybe_text : List ℕ → Option NumberOrder → List ℕ
maybe_text name None = []
maybe_text name (Some judged) = number_order_text name judged

-- The word of an opening.
abbrev pub opening_word : Bool → List ℕ
opening_word true = codes " opens"
opening_word false = []

-- The word of a retransmission.
abbrev pub resent_text : Bool → List ℕ
resent_text true = codes " resent"
resent_text false = []

-- That a damaged datagram with the number of this PDU came before it.
abbrev pub damage_text : Option ℕ → List ℕ
damage_text None = []
damage_text (Some line) = join_pieces (codes " after damage in line " ∷ decimal line ∷ [])

-- The line that a RetrReq asks for.
unfoldable pub requested_line_text : ℕ → List ℕ
requested_line_text line = join_pieces (codes " asks for line " ∷ decimal line ∷ [])

-- The same, if it asks for one.
abbrev pub maybe_requested_line_text : Option ℕ → List ℕ
maybe_requested_line_text None = []
maybe_requested_line_text (Some line) = requested_line_text line

-- An age in milliseconds.
abbrev pub age_text : Option ℕ → List ℕ
age_text None = []
age_text (Some age) = join_pieces (codes " age " ∷ decimal age ∷ codes " ms" ∷ [])

-- How long an end has waited for a confirmation, in milliseconds.
unfoldable pub wait_text : ℕ → List ℕ
wait_text waits = join_pieces (codes " waits " ∷ decimal waits ∷ codes " ms" ∷ [])

-- A wait, from half of T_max on.
abbrev pub long_wait_text : ℕ → Option ℕ → List ℕ
long_wait_text t_max None = []
long_wait_text t_max (Some waits) = if is_half t_max waits then wait_text waits else []

-- The reason of a DiscReq.
abbrev pub leaving_text : Option Leaving → List ℕ
leaving_text None = []
leaving_text (Some leaving) = leaving_words leaving

-- An opening, and how the numbers followed.
unfoldable pub order_text : Remarks → List ℕ
order_text r =
    join_pieces (opening_word r.opens ∷ maybe_text (codes "channel") r.channel ∷
    number_order_text (codes "all") r.together ∷ maybe_text (codes "sn") r.sequence ∷ [])

-- A retransmission, damage before the PDU, and the line that it asks for.
unfoldable pub again_text : Remarks → List ℕ
again_text r = join_pieces (resent_text r.resent ∷ damage_text r.damaged ∷ maybe_requested_line_text r.asks ∷ [])

-- The age, the wait and the reason.
unfoldable pub other_text : ℕ → Remarks → List ℕ
other_text t_max r = join_pieces (age_text r.age ∷ long_wait_text t_max r.waits ∷ leaving_text r.leaving ∷ [])

-- All remarks on a PDU.
unfoldable pub remarks_text : ℕ → Remarks → List ℕ
remarks_text t_max r = join_pieces (order_text r ∷ again_text r ∷ other_text t_max r ∷ [])
