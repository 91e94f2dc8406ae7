-- How a reading stands after some fields that all passed: before settle.
use Rattle.std.proofs.Common.{◌≡◌, ℕ, Bool, true, false, cond, ◌||◌, eqb, ltb, leb, List, [], ◌∷◌, ◌++◌, length, Some, None, Option, sym, refl, ap, ◌∙◌, subst, append-nil}
use Rattle.std.proofs.lemmas.Bool.{false≢true}
use Rattle.model.specs.Answers.{Answer, Outcome, accepted, option_as, refused}
use Rattle.model.specs.Cases.{add_refused, adding, allowed_parts}
use Rattle.model.specs.Goals.{Target, bad_list, band_made, between, list_made, one_of, stride_made, strided}
use Rattle.model.specs.Parts.{Part}
use Rattle.meaning.specs.Life.{blank}
use Rattle.fields.specs.Values.{Value, kind, band, list, stride}
use Rattle.sequence.specs.declared.phase.Phase.{Phase}
use Rattle.sequence.specs.declared.phase.Phase.TheVariants.{Kinds, Goal, Strided, Rules, Done}
use Rattle.sequence.specs.declared.ruled.Ruled.{Ruled}
use Rattle.sequence.specs.Words.{is_accepted}
use Rattle.reader.specs.Holding.{Holding, goal_made, kind_added, operate, stride_on, stride_over}
use Rattle.reader.specs.Numbers.{kinds_from}
use Rattle.outcomes.specs.Named.{calls_named, goal_after, goal_named, kinds_named, making_refused, over_refused, refusal_in}
use Rattle.outcomes.specs.Outcomes.{Showing, Waiting}
use Rattle.outcomes.proofs.Naming.{calls_more, fit_more, goal_more, kinds_more}

-- not settled, the kinds being within their limits and no rule-out among the fields
pub record Unset (f b : List ℕ) (us : List Value) (log : List Ruled) (h : Holding) : Type 0 where
  pub waits : Waiting f b us log h
  pub fit : allowed_parts (kinds_from (kinds_named us)) ≡ kinds_named us
  pub rules : calls_named (length f) (length b) us ≡ []

abbrev pub Stage : List ℕ → List ℕ → Phase → List Value → List Ruled → Holding → Type 0
Stage f b Kinds us log h = Unset f b us log h × (goal_named us ≡ None)
Stage f b (Goal g) us log h = Unset f b us log h × ((t : Target) × (goal_named us ≡ Some t) × (h.goal ≡ Some t))
Stage f b (Strided g) us log h = Unset f b us log h × ((t : Target) × (goal_named us ≡ Some t))
Stage f b Rules us log h = Showing f b us log h
Stage f b Done us log h = Showing f b us log h

module _ (f b : List ℕ) (us : List Value) (log : List Ruled) (h : Holding) (u : Unset f b us log h) where
  -- a kind
  module _ (size price counts : ℕ) where
    abbrev the_kind : Part
    the_kind = record { size = size; price = price; standing = counts }

    abbrev adds : Option ℕ → Holding × Answer
    adds o = kind_added h (adding o h.kinds the_kind)

    kind_by_lem : (o : Option ℕ) → add_refused (length h.kinds) size price counts ≡ o → goal_named us ≡ None → is_accepted (adds o).1 ≡ true
        → Stage f b Kinds (us ++ kind size price counts ∷ []) log (adds o).0
    kind_by_lem (Some n) e g a = absurd (false≢true a)
    kind_by_lem None e g a =
        let w = u.waits in
        let ks = kinds_more us (kind size price counts ∷ []) in
        let gs = goal_more None us (kind size price counts ∷ []) in (
          record {
            waits = record {
              case = ap (λ (k : List Part). k ++ the_kind ∷ []) w.case ∙ sym ks;
              life = w.life ∙ ap (option_as blank) (sym gs);
              ahead = w.ahead;
              back = w.back;
              none = w.none;
            };
            fit =
                ap (λ (k : List Part). allowed_parts (kinds_from k)) ks
                ∙ (fit_more (length h.kinds) (kinds_named us) the_kind e u.fit ∙ sym ks);
            rules = calls_more (length f) (length b) us (kind size price counts ∷ []) ∙ ap (λ xs. xs ++ []) u.rules;
          },
          gs ∙ g,
        )

    pub kind_goes : goal_named us ≡ None → is_accepted (operate h (kind size price counts)).1 ≡ true
        → Stage f b Kinds (us ++ kind size price counts ∷ []) log (operate h (kind size price counts)).0
    kind_goes = kind_by_lem (add_refused (length h.kinds) size price counts) refl

    kind_not : (o : Option ℕ) (n : ℕ) → (adds o).1 ≡ refused n → (o ≡ Some n) × Waiting f b us log (adds o).0
    kind_not (Some m) n e = (let z : m ≡ n = cc in ap Some z, u.waits)
    kind_not None n e = cc

    pub kind_stops : (n : ℕ) → (operate h (kind size price counts)).1 ≡ refused n
        → (making_refused us (kind size price counts) ≡ Some n) × Waiting f b us log (operate h (kind size price counts)).0
    kind_stops n e =
        let k = kind_not (add_refused (length h.kinds) size price counts) n e in
        (ap (λ (ps : List Part). add_refused (length ps) size price counts) (sym u.waits.case) ∙ k.0, k.1)

  -- what is held once a goal that means t is made, and o is the band or list
  abbrev made : Option Target → Target → Holding
  made o t = record { kinds = h.kinds; goal = o; life = Some (blank t); forward = h.forward; backward = h.backward }

  -- a field that is neither a kind nor a rule-out
  unset_made : (v : Value) (o : Option Target) (t : Target) → kinds_named (v ∷ []) ≡ [] → calls_named (length f) (length b) (v ∷ []) ≡ []
      → goal_named (us ++ v ∷ []) ≡ Some t → Unset f b (us ++ v ∷ []) log (made o t)
  unset_made v o t no_kind no_call g =
      let ks : kinds_named (us ++ v ∷ []) ≡ kinds_named us = kinds_more us (v ∷ []) ∙ (ap (λ ps. kinds_named us ++ ps) no_kind ∙ append-nil (kinds_named us)) in
      record {
        waits = record {
          case = u.waits.case ∙ sym ks;
          life = ap (option_as blank) (sym g);
          ahead = u.waits.ahead;
          back = u.waits.back;
          none = u.waits.none;
        };
        fit = ap (λ (k : List Part). allowed_parts (kinds_from k)) ks ∙ (u.fit ∙ sym ks);
        rules = calls_more (length f) (length b) us (v ∷ []) ∙ (ap (λ cs. calls_named (length f) (length b) us ++ cs) no_call ∙ (append-nil _ ∙ u.rules));
      }

  -- a goal, refused under a number or meaning t
  goal_by : (x : Bool) (number : ℕ) (t : Target) (v : Value) → kinds_named (v ∷ []) ≡ [] → calls_named (length f) (length b) (v ∷ []) ≡ []
      → goal_named (us ++ v ∷ []) ≡ Some t → is_accepted (goal_made h (cond x (refused number) (accepted t))).1 ≡ true
      → Unset f b (us ++ v ∷ []) log (goal_made h (cond x (refused number) (accepted t))).0
      × ((y : Target) × (goal_named (us ++ v ∷ []) ≡ Some y) × ((goal_made h (cond x (refused number) (accepted t))).0.goal ≡ Some y))
  goal_by true number t v ks cs g a = absurd (false≢true a)
  goal_by false number t v ks cs g a = (unset_made v (Some t) t ks cs g, (t, g, refl))

  goal_not : (o : Outcome Target) (n : ℕ) → (goal_made h o).1 ≡ refused n → (refusal_in o ≡ Some n) × Waiting f b us log (goal_made h o).0
  goal_not (refused m) n e = (let z : m ≡ n = cc in ap Some z, u.waits)
  goal_not (accepted t) n e = cc

  pub band_goes : (p low high : ℕ) → is_accepted (operate h (band low high)).1 ≡ true
      → Stage f b (Goal p) (us ++ band low high ∷ []) log (operate h (band low high)).0
  band_goes p low high a =
      goal_by (ltb high low || ltb 4095 high) 4 (between low high) (band low high) refl refl (goal_more None us (band low high ∷ [])) a

  pub list_goes : (p : ℕ) (totals : List ℕ) → is_accepted (operate h (list totals)).1 ≡ true
      → Stage f b (Goal p) (us ++ list totals ∷ []) log (operate h (list totals)).0
  list_goes p totals a = goal_by (bad_list totals) 4 (one_of totals) (list totals) refl refl (goal_more None us (list totals ∷ [])) a

  pub band_stops : (low high n : ℕ) → (operate h (band low high)).1 ≡ refused n
      → (making_refused us (band low high) ≡ Some n) × Waiting f b us log (operate h (band low high)).0
  band_stops low high n e = goal_not (band_made low high) n e

  pub list_stops : (totals : List ℕ) (n : ℕ) → (operate h (list totals)).1 ≡ refused n
      → (making_refused us (list totals) ≡ Some n) × Waiting f b us log (operate h (list totals)).0
  list_stops totals n e = goal_not (list_made totals) n e

  -- a stride over the goal t
  over_by : (x : Bool) (t : Target) (v : Value) → kinds_named (v ∷ []) ≡ [] → calls_named (length f) (length b) (v ∷ []) ≡ []
      → goal_named (us ++ v ∷ []) ≡ Some t → is_accepted (stride_over h (cond x (refused 5) (accepted t))).1 ≡ true
      → Unset f b (us ++ v ∷ []) log (stride_over h (cond x (refused 5) (accepted t))).0 × ((y : Target) × (goal_named (us ++ v ∷ []) ≡ Some y))
  over_by true t v ks cs g a = absurd (false≢true a)
  over_by false t v ks cs g a = (unset_made v h.goal t ks cs g, (t, g))

  over_not : (o : Outcome Target) (n : ℕ) → (stride_over h o).1 ≡ refused n → (refusal_in o ≡ Some n) × Waiting f b us log (stride_over h o).0
  over_not (refused m) n e = (let z : m ≡ n = cc in ap Some z, u.waits)
  over_not (accepted t) n e = cc

  module _ (t : Target) (named : goal_named us ≡ Some t) (goal : h.goal ≡ Some t) (m r : ℕ) where
    abbrev test : Bool
    test = eqb m 0 || (ltb 4096 m || leb m r)

    pub stride_goes : (g : ℕ) → is_accepted (operate h (stride m r)).1 ≡ true → Stage f b (Strided g) (us ++ stride m r ∷ []) log (operate h (stride m r)).0
    stride_goes g a =
        let P : Option Target → Type 0 = λ o. is_accepted (stride_on h o m r).1 ≡ true → Stage f b (Strided g) (us ++ stride m r ∷ []) log (stride_on h o m r).0 in
        let base : P (Some t) =
        over_by test (strided m r t) (stride m r) refl refl
        (goal_more None us (stride m r ∷ []) ∙ ap (λ (o : Option Target). goal_after o (stride m r)) named) in
        subst P (sym goal) base a

    pub stride_stops : (n : ℕ) → (operate h (stride m r)).1 ≡ refused n
        → (making_refused us (stride m r) ≡ Some n) × Waiting f b us log (operate h (stride m r)).0
    stride_stops n e =
        let P : Option Target → Type 0 = λ o. (stride_on h o m r).1 ≡ refused n → (over_refused (Some t) m r ≡ Some n) × Waiting f b us log (stride_on h o m r).0 in
        let base : P (Some t) = over_not (stride_made m r t) n in
        let k = subst P (sym goal) base e in
        (ap (λ (o : Option Target). over_refused o m r) named ∙ k.0, k.1)
