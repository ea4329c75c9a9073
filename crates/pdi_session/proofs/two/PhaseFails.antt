-- The phases in which a telegram of the peer's queue can end a session.
use Rattle.std.proofs.Common.{◌≡◌, ◌⊎◌, ℕ, suc, ◌≤◌, ◌==◌, true, false, List, [], ◌∷◌, ◌++◌, length, refl, sym, ap, ◌∙◌, arith, subst, ⊎_elim, inl, inr}
use Rattle.std.specs.Prelude.{is_none}
use Rattle.std.proofs.lemmas.Bool.{eq-eqb, true≢false}
use Rattle.std.proofs.lemmas.List.{length-append}
use Rattle.octets.specs.Lists.{IsBeginning}
use Rattle.pdi_session.specs.telegram.Tele.{Tele}
use Rattle.pdi_session.specs.declared.Phase.{Phase}
use Rattle.pdi_session.specs.declared.Phase.TheVariants.{Idle, Checking, Requesting, AwaitCheck, AwaitRequest, Refused, Initialising, Established, Ended}
use Rattle.pdi_session.specs.declared.Notice.TheVariants as notice
use Rattle.pdi_session.specs.declared.Form.TheVariants.{Notifies, Item}
use Rattle.pdi_session.specs.declared.Verdict.TheVariants.{Takes, Goes, Answers}
use Rattle.pdi_session.specs.Settings.{Interlocking, Field}
use Rattle.pdi_session.specs.Telegrams.{form_of, is_addressed}
use Rattle.pdi_session.specs.Tables.{interlocking_table, is_early}
use Rattle.pdi_session.specs.SessionStep.{SessionState, end_of, judge_telegram, notice_tele}
use Rattle.pdi_session.specs.Histories.{History, is_ended}
use Rattle.pdi_session.specs.Laws.{IsItem, IsStatus, completions}
use Rattle.pdi_session.proofs.one.Shapes.{Accepts, Asked, FeAt, FePast, Heard, IlAt, IlPast, Refuses, Starts, Told, base, check_from, completions-append, differs_from, equal_from, request_from, start_from}
use Rattle.pdi_session.proofs.one.IlSteps.{counted}
use Rattle.pdi_session.proofs.two.PhaseLemma.{Joint, decides, equal_says, first_same, free_form, goes_on, is_equal, later_has, met, none_begins, second_is, to_field, to_interlocking}

-- a telegram ends the session
abbrev pub Fails : History → Tele → Type 0
Fails h t = is_none (end_of (judge_telegram h.state t)) ≡ false

-- then the field element has refused the version
abbrev pub IlFailed : Phase → History → Type 0
IlFailed phase y = (is_early phase ≡ true) × ((version : ℕ) × (y.queue ≡ differs_from version (base y.state) ∷ []))

-- nothing follows the end of a queue
too_long : (js rest queue : List Tele) (t : Tele) (n : ℕ) → (js ++ t ∷ []) ++ rest ≡ queue → length queue ≡ n
    → n ≤ length js → ⊥
too_long js rest queue t n e long short =
    let l = ap length e in omega (arith, l, long, short, length-append (js ++ t ∷ []) rest, length-append js (t ∷ []))

-- something was judged, so the peer's queue is not empty
heard_some : (asked : ℕ) (s : SessionState) (js queue : List Tele) → Heard asked s js → IsBeginning js queue
    → queue ≡ [] → ⊥
heard_some asked s js queue heard begins none =
    let nothing : js ≡ [] = none_begins js (subst (IsBeginning js) none begins) in
    let long : suc (length heard.others) ≡ 0 = ap length (sym heard.is ∙ nothing) in
    omega (arith, long)

module _ (version : ℕ) (versions checksum : List ℕ) (x y : History) (t : Tele) (rest : List Tele)
    (j : Joint version versions checksum x y) where
  -- the interlocking goes on at a reply of equal versions
  equal_goes : (asked : ℕ) → Heard asked (base y.state) y.judged → x.state.phase ≡ Checking
      → t ≡ equal_from asked (base y.state) → is_none (end_of (judge_telegram x.state t)) ≡ true
  equal_goes asked heard phase is =
      let m = met version versions checksum x y asked j heard in
      let from : is_addressed x.state.addressing t ≡ true = ap (is_addressed x.state.addressing) is
      ∙ to_interlocking x.state.addressing y.state.addressing (equal_from asked (base y.state)).kind
      (equal_from asked (base y.state)).payload m.crossed in
      let says : form_of t.kind t.payload ≡ Notifies (notice.VersionEqual asked) = ap (λ u. form_of u.kind u.payload) is
      ∙ equal_says asked checksum (base y.state) versions j.fe_role j.short in
      let same : (asked == version) ≡ true = eq-eqb asked version (sym m.same) in
      goes_on x.state t (Answers Requesting notice.InitialisationRequest)
      (decides x.state t (Interlocking version) Checking (Notifies (notice.VersionEqual asked)) j.il_role phase from
      says ∙ rw same refl) refl

  -- and at the start of the initialisation
  start_goes : (asked : ℕ) → Heard asked (base y.state) y.judged → x.state.phase ≡ Requesting
      → t ≡ start_from (base y.state) → is_none (end_of (judge_telegram x.state t)) ≡ true
  start_goes asked heard phase is =
      let m = met version versions checksum x y asked j heard in
      let from : is_addressed x.state.addressing t ≡ true = ap (is_addressed x.state.addressing) is
      ∙ to_interlocking x.state.addressing y.state.addressing (start_from (base y.state)).kind
      (start_from (base y.state)).payload m.crossed in
      let says : form_of t.kind t.payload ≡ Notifies notice.StartInitialisation = ap (λ u. form_of u.kind u.payload) is
      in
      goes_on x.state t (Goes Initialising) (decides x.state t (Interlocking version) Requesting
      (Notifies notice.StartInitialisation) j.il_role phase from says) refl

  -- and at a status
  status_goes : (asked : ℕ) (phase : Phase) → Heard asked (base y.state) y.judged → x.state.phase ≡ phase
      → (phase ≡ Initialising) ⊎ (phase ≡ Established) → IsItem (base y.state) t
      → is_none (end_of (judge_telegram x.state t)) ≡ true
  status_goes asked phase heard p now item =
      let m = met version versions checksum x y asked j heard in
      let from : is_addressed x.state.addressing t ≡ true = ap (is_addressed x.state.addressing) item.1
      ∙ to_interlocking x.state.addressing y.state.addressing t.kind t.payload m.crossed in
      let takes : interlocking_table version phase Item
      ≡ Takes = ⊎_elim (λ e. ap (λ q. interlocking_table version q Item) e)
      (λ e. ap (λ q. interlocking_table version q Item) e) now in
      goes_on x.state t Takes (decides x.state t (Interlocking version) phase Item j.il_role p from
      (free_form t.kind t.payload item.0) ∙ takes) refl

  -- and, while it is Initialising, at the end of the initialisation
  done_goes : (asked : ℕ) → Heard asked (base y.state) y.judged → x.state.phase ≡ Initialising
      → t ≡ notice_tele (base y.state) notice.InitialisationCompleted
      → is_none (end_of (judge_telegram x.state t)) ≡ true
  done_goes asked heard phase is =
      let m = met version versions checksum x y asked j heard in
      let from : is_addressed x.state.addressing t ≡ true = ap (is_addressed x.state.addressing) is
      ∙ to_interlocking x.state.addressing y.state.addressing
      (notice_tele (base y.state) notice.InitialisationCompleted).kind
      (notice_tele (base y.state) notice.InitialisationCompleted).payload m.crossed in
      let says : form_of t.kind t.payload ≡ Notifies notice.InitialisationCompleted = ap (λ u. form_of u.kind u.payload)
      is in
      goes_on x.state t (Goes Established) (decides x.state t (Interlocking version) Initialising
      (Notifies notice.InitialisationCompleted) j.il_role phase from says) refl

  -- so it fails only in Checking, and only at a refusal
  pub il_fails : (phase : Phase) → x.state.phase ≡ phase → IlAt version (base x.state) phase x.queue x.judged
      → FePast (base y.state) y.queue y.judged → (x.judged ++ t ∷ []) ++ rest ≡ y.queue → is_ended phase ≡ false
      → Fails x t → IlFailed phase y
  il_fails phase p at past next unfinished fails =
      ⊎_elim (λ none. absurd (too_long x.judged rest y.queue t 0 next (ap length none) (omega arith)))
      (λ some. ⊎_elim (λ refuses. refused phase p at refuses unfinished)
      (λ more. ⊎_elim (λ accepts. accepted phase p at accepts unfinished)
      (λ starts. started phase p at starts unfinished) more) some) past
    where
      nobody : (asked : ℕ) → Heard asked (base y.state) y.judged → x.queue ≡ [] → ⊥
      nobody asked heard none = heard_some asked (base y.state) y.judged x.queue heard j.fe_hears none

      against : is_none (end_of (judge_telegram x.state t)) ≡ true → ⊥
      against goes = true≢false (sym goes ∙ fails)

      refused : (phase : Phase) → x.state.phase ≡ phase → IlAt version (base x.state) phase x.queue x.judged
          → Refuses (base y.state) y.queue y.judged → is_ended phase ≡ false → IlFailed phase y
      refused Idle p at r unfinished = absurd (nobody r.asked r.heard at.0)
      refused Checking p at r unfinished = (refl, (r.version, r.is))
      refused Requesting p at r unfinished =
          absurd (too_long x.judged rest y.queue t 1 next (ap length r.is) (omega (arith, at.one)))
      refused AwaitCheck p at r unfinished = absurd at
      refused AwaitRequest p at r unfinished = absurd at
      refused Refused p at r unfinished = absurd at
      refused Initialising p at r unfinished =
          absurd (too_long x.judged rest y.queue t 1 next (ap length r.is) (omega (arith, at.some)))
      refused Established p at r unfinished =
          absurd (too_long x.judged rest y.queue t 1 next (ap length r.is) (omega (arith, at.some)))
      refused Ended p at r unfinished = absurd (true≢false unfinished)

      first_is : (first : Tele) (more : List Tele) → x.judged ≡ [] → y.queue ≡ first ∷ more → t ≡ first
      first_is first more none is =
          first_same t first rest more (ap (λ l. (l ++ t ∷ []) ++ rest) (sym none) ∙ next ∙ is)

      accepted : (phase : Phase) → x.state.phase ≡ phase → IlAt version (base x.state) phase x.queue x.judged
          → Accepts (base y.state) y.queue y.judged → is_ended phase ≡ false → IlFailed phase y
      accepted Idle p at r unfinished = absurd (nobody r.version r.heard at.0)
      accepted Checking p at r unfinished =
          absurd (against (equal_goes r.version r.heard p
          (first_is (equal_from r.version (base y.state)) [] at.1 r.is)))
      accepted Requesting p at r unfinished =
          absurd (too_long x.judged rest y.queue t 1 next (ap length r.is) (omega (arith, at.one)))
      accepted AwaitCheck p at r unfinished = absurd at
      accepted AwaitRequest p at r unfinished = absurd at
      accepted Refused p at r unfinished = absurd at
      accepted Initialising p at r unfinished =
          absurd (too_long x.judged rest y.queue t 1 next (ap length r.is) (omega (arith, at.some)))
      accepted Established p at r unfinished =
          absurd (too_long x.judged rest y.queue t 1 next (ap length r.is) (omega (arith, at.some)))
      accepted Ended p at r unfinished = absurd (true≢false unfinished)

      once : (r : Starts (base y.state) y.queue y.judged) → completions x.judged ≡ 1
          → form_of t.kind t.payload ≡ Notifies notice.InitialisationCompleted → ⊥
      once r done says =
          let all = ap completions (next ∙ r.is) in
          omega (
            arith,
            all,
            done,
            r.most,
            counted t says,
            completions-append (x.judged ++ t ∷ []) rest,
            completions-append x.judged (t ∷ []),
          )

      started : (phase : Phase) → x.state.phase ≡ phase → IlAt version (base x.state) phase x.queue x.judged
          → Starts (base y.state) y.queue y.judged → is_ended phase ≡ false → IlFailed phase y
      started Idle p at r unfinished = absurd (nobody r.version r.heard at.0)
      started Checking p at r unfinished =
          absurd (against (equal_goes r.version r.heard p
          (first_is (equal_from r.version (base y.state)) (start_from (base y.state) ∷ r.status) at.1 r.is)))
      started Requesting p at r unfinished =
          absurd (against (start_goes r.version r.heard p
          (second_is x.judged t (equal_from r.version (base y.state)) (start_from (base y.state)) rest r.status
          at.one (next ∙ r.is))))
      started AwaitCheck p at r unfinished = absurd at
      started AwaitRequest p at r unfinished = absurd at
      started Refused p at r unfinished = absurd at
      started Initialising p at r unfinished =
          absurd (against (⊎_elim (λ item. status_goes r.version Initialising r.heard p (inl refl) item)
          (λ done. done_goes r.version r.heard p done)
          (later_has (IsStatus (base y.state)) x.judged t (equal_from r.version (base y.state))
          (start_from (base y.state)) rest r.status at.some (next ∙ r.is) r.each)))
      started Established p at r unfinished =
          absurd (⊎_elim (λ item. against (status_goes r.version Established r.heard p (inr refl) item))
          (λ done. once r at.done (ap (λ u. form_of u.kind u.payload) done))
          (later_has (IsStatus (base y.state)) x.judged t (equal_from r.version (base y.state))
          (start_from (base y.state)) rest r.status at.some (next ∙ r.is) r.each))
      started Ended p at r unfinished = absurd (true≢false unfinished)

  -- the field element goes on at the request
  request_goes : (asked : ℕ) → Heard asked (base y.state) y.judged → y.state.phase ≡ AwaitRequest
      → t ≡ request_from (base x.state) → is_none (end_of (judge_telegram y.state t)) ≡ true
  request_goes asked heard phase is =
      let m = met version versions checksum x y asked j heard in
      let from : is_addressed y.state.addressing t ≡ true =
      ap (is_addressed y.state.addressing) is ∙ to_field x.state.addressing y.state.addressing
      (request_from (base x.state)).kind (request_from (base x.state)).payload m.crossed
      in
      let says : form_of t.kind t.payload ≡ Notifies notice.InitialisationRequest = ap (λ u. form_of u.kind u.payload)
      is in
      goes_on y.state t (Answers Initialising notice.StartInitialisation)
      (decides y.state t (Field versions checksum) AwaitRequest (Notifies notice.InitialisationRequest) j.fe_role phase
      from says) refl

  -- and at a command
  command_goes : (asked : ℕ) → Heard asked (base y.state) y.judged → y.state.phase ≡ Established
      → IsItem (base x.state) t → is_none (end_of (judge_telegram y.state t)) ≡ true
  command_goes asked heard phase item =
      let m = met version versions checksum x y asked j heard in
      let from : is_addressed y.state.addressing t ≡ true = ap (is_addressed y.state.addressing) item.1
      ∙ to_field x.state.addressing y.state.addressing t.kind t.payload m.crossed in
      goes_on y.state t Takes (decides y.state t (Field versions checksum) Established Item j.fe_role phase from
      (free_form t.kind t.payload item.0)) refl

  -- so it fails before it has sent anything
  pub fe_fails : (phase : Phase) → y.state.phase ≡ phase → FeAt (base y.state) phase y.queue y.judged
      → IlPast version (base x.state) x.queue x.judged → (y.judged ++ t ∷ []) ++ rest ≡ x.queue
      → is_ended phase ≡ false → Fails y t → (is_early phase ≡ true) × (y.queue ≡ [])
  fe_fails phase p at past next unended fails = by phase p at unended
    where
      against : is_none (end_of (judge_telegram y.state t)) ≡ true → ⊥
      against goes = true≢false (sym goes ∙ fails)

      -- there are two telegrams, so it was requested
      asked : 1 ≤ length y.judged → Asked version (base x.state) x.queue x.judged
      asked some =
          ⊎_elim (λ none. absurd (too_long y.judged rest x.queue t 0 next (ap length none) (omega arith)))
          (λ more. ⊎_elim (λ one. absurd (too_long y.judged rest x.queue t 1 next (ap length one) some)) (λ a. a) more)
          past

      not_equal : (r : Refuses (base y.state) y.queue y.judged) → Told version x.judged → ⊥
      not_equal r told =
          let same : told.first ≡ differs_from r.version (base y.state) =
          first_same told.first (differs_from r.version (base y.state)) (told.others ++ j.il_hears.0) []
          (ap (λ l. l ++ j.il_hears.0) (sym told.is) ∙ j.il_hears.1 ∙ r.is)
          in
          true≢false (sym (ap is_equal told.says) ∙ ap (λ u. is_equal (form_of u.kind u.payload)) same)

      unfinished_yet : (r : Starts (base y.state) y.queue y.judged) → completions r.status ≡ 0
          → 1 ≤ completions x.judged → ⊥
      unfinished_yet r none some =
          let all = ap completions (j.il_hears.1 ∙ r.is) in
          omega (arith, all, none, some, completions-append x.judged j.il_hears.0)

      late : (a : Asked version (base x.state) x.queue x.judged) → length y.judged ≡ 2 → 1 ≤ completions x.judged
      late a two =
          let facts = a.late (λ none. too_long y.judged rest x.queue t 2 next (ap length a.is
          ∙ ap (λ l. suc (suc (length l))) none) (omega (arith, two))) in
          facts.1

      by : (phase : Phase) → y.state.phase ≡ phase → FeAt (base y.state) phase y.queue y.judged → is_ended phase ≡ false
          → (is_early phase ≡ true) × (y.queue ≡ [])
      by Idle p at unended = (refl, at.0)
      by Checking p at unended = absurd at
      by Requesting p at unended = absurd at
      by AwaitCheck p at unended = (refl, at.0)
      by AwaitRequest p at unended =
          let a = asked (omega (arith, at.1)) in
          absurd (against (request_goes at.0.version at.0.heard p
          (second_is y.judged t (check_from version (base x.state)) (request_from (base x.state)) rest a.commands
          at.1 (next ∙ a.is))))
      by Refused p at unended = absurd (not_equal at.0 (asked (omega (arith, at.1))).told)
      by Initialising p at unended =
          absurd (unfinished_yet at.starts at.unfinished (late (asked (omega (arith, at.two))) at.two))
      by Established p at unended =
          let a = asked (omega (arith, at.some)) in
          absurd (against (command_goes at.starts.version at.starts.heard p
          (later_has (IsItem (base x.state)) y.judged t (check_from version (base x.state))
          (request_from (base x.state)) rest a.commands at.some (next ∙ a.is) a.each)))
      by Ended p at unended = absurd (true≢false unended)
