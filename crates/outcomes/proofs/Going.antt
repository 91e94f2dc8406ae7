-- Fields in sequence whose operations are all accepted lead from stage to stage.
use Rattle.std.proofs.Common.{◌≡◌, ℕ, ◌+◌, List, [], ◌∷◌, ◌++◌, length, Some, None, sym, subst, append_assoc, append-nil}
use Rattle.fields.specs.Values.{Value, kind, band, list, stride, rule_out_field, end, field}
use Rattle.sequence.specs.declared.phase.Phase.{Phase}
use Rattle.sequence.specs.declared.phase.Phase.TheVariants.{Kinds, Goal, Strided, Rules, Done}
use Rattle.sequence.specs.declared.ruled.Ruled.{Ruled}
use Rattle.sequence.specs.Sequence.{reach}
use Rattle.sequence.specs.Words.{AllAccepted, after_all, calls, ruled_by}
use Rattle.reader.specs.Holding.{Holding, operate, settle_held}
use Rattle.outcomes.specs.Desk.{desk}
use Rattle.outcomes.proofs.Stages.{Stage, band_goes, kind_goes, list_goes, stride_goes}
use Rattle.outcomes.proofs.Settles.{settle_shows}
use Rattle.outcomes.proofs.Rules.{end_shows, rule_shows}

pub none_not : {A : Type 0} (n : Phase) → None ≡ Some n → A
none_not n e = cc

module _ (f b : List ℕ) where
  -- where the fields lead, with the operations still to come
  abbrev Leads : List Value → Phase → ℕ → List Value → Holding → List Ruled → Phase → Type 0
  Leads vs phase p us s log next =
      AllAccepted desk s (calls phase p vs) → Stage f b next (us ++ vs) (log ++ ruled_by desk s (calls phase p vs)) (after_all desk s (calls phase p vs))

  -- the stage of the same fields and answers, written otherwise
  moved : (next : Phase) (us : List Value) (v : Value) (vs : List Value) (log front rest : List Ruled) (s : Holding)
      → Stage f b next ((us ++ v ∷ []) ++ vs) ((log ++ front) ++ rest) s → Stage f b next (us ++ v ∷ vs) (log ++ (front ++ rest)) s
  moved next us v vs log front rest s x =
      subst (λ (l : List Ruled). Stage f b next (us ++ v ∷ vs) l s) (append_assoc log front rest)
      (subst (λ (ws : List Value). Stage f b next ws ((log ++ front) ++ rest) s) (append_assoc us (v ∷ []) vs) x)

  plain : (next : Phase) (us : List Value) (v : Value) (vs : List Value) (log rest : List Ruled) (s : Holding)
      → Stage f b next ((us ++ v ∷ []) ++ vs) (log ++ rest) s → Stage f b next (us ++ v ∷ vs) (log ++ rest) s
  plain next us v vs log rest s x = subst (λ (ws : List Value). Stage f b next ws (log ++ rest) s) (append_assoc us (v ∷ []) vs) x

  pub goes_on : (vs : List Value) (phase : Phase) (p : ℕ) (us : List Value) (s : Holding) (log : List Ruled) (next : Phase)
      → Stage f b phase us log s → reach phase p vs ≡ Some next → Leads vs phase p us s log next
  unfolding desk
  goes_on [] phase p us s log next st e a =
      let same : phase ≡ next = cc in
      subst (λ (ph : Phase). Stage f b ph (us ++ []) (log ++ []) s) same
      (subst (λ (ws : List Value). Stage f b phase ws (log ++ []) s) (sym (append-nil us))
      (subst (λ (l : List Ruled). Stage f b phase us l s) (sym (append-nil log)) st))
  goes_on (kind x y z ∷ vs) Kinds p us s log next st e a =
      plain next us (kind x y z) vs log _ _
      (goes_on vs Kinds (p + 15) (us ++ kind x y z ∷ []) (operate s (kind x y z)).0 log next (kind_goes f b us log s st.0 x y z st.1 a.0) e a.1)
  goes_on (band x y ∷ vs) Kinds p us s log next st e a =
      plain next us (band x y) vs log _ _
      (goes_on vs (Goal p) (p + 7) (us ++ band x y ∷ []) (operate s (band x y)).0 log next (band_goes f b us log s st.0 p x y a.0) e a.1)
  goes_on (list ts ∷ vs) Kinds p us s log next st e a =
      plain next us (list ts) vs log _ _
      (goes_on vs (Goal p) (p + length (field (list ts))) (us ++ list ts ∷ []) (operate s (list ts)).0 log next (list_goes f b us log s st.0 p ts a.0) e a.1)
  goes_on (stride x y ∷ vs) (Goal g) p us s log next st e a =
      plain next us (stride x y) vs log _ _
      (goes_on vs (Strided g) (p + 7) (us ++ stride x y ∷ []) (operate s (stride x y)).0 log next
      (stride_goes f b us log s st.0 st.1.0 st.1.1 st.1.2 x y g a.0) e a.1)
  goes_on (rule_out_field k d ∷ vs) (Goal g) p us s log next st e a =
      let sh = settle_shows f b us log s st.0 st.1.0 st.1.1 a.0 in
      moved next us (rule_out_field k d) vs log _ _ _
      (goes_on vs Rules (p + 5) (us ++ rule_out_field k d ∷ []) (operate (settle_held s).0 (rule_out_field k d)).0 _ next
      (rule_shows f b us log (settle_held s).0 sh k d a.1.0) e a.1.1)
  goes_on (end ∷ vs) (Goal g) p us s log next st e a =
      let sh = settle_shows f b us log s st.0 st.1.0 st.1.1 a.0 in
      plain next us end vs log _ _
      (goes_on vs Done (p + 3) (us ++ end ∷ []) (settle_held s).0 log next (end_shows f b us log (settle_held s).0 sh) e a.1)
  goes_on (rule_out_field k d ∷ vs) (Strided g) p us s log next st e a =
      let sh = settle_shows f b us log s st.0 st.1.0 st.1.1 a.0 in
      moved next us (rule_out_field k d) vs log _ _ _
      (goes_on vs Rules (p + 5) (us ++ rule_out_field k d ∷ []) (operate (settle_held s).0 (rule_out_field k d)).0 _ next
      (rule_shows f b us log (settle_held s).0 sh k d a.1.0) e a.1.1)
  goes_on (end ∷ vs) (Strided g) p us s log next st e a =
      let sh = settle_shows f b us log s st.0 st.1.0 st.1.1 a.0 in
      plain next us end vs log _ _
      (goes_on vs Done (p + 3) (us ++ end ∷ []) (settle_held s).0 log next (end_shows f b us log (settle_held s).0 sh) e a.1)
  goes_on (rule_out_field k d ∷ vs) Rules p us s log next st e a =
      moved next us (rule_out_field k d) vs log _ _ _
      (goes_on vs Rules (p + 5) (us ++ rule_out_field k d ∷ []) (operate s (rule_out_field k d)).0 _ next (rule_shows f b us log s st k d a.0) e a.1)
  goes_on (end ∷ vs) Rules p us s log next st e a =
      plain next us end vs log _ _ (goes_on vs Done (p + 3) (us ++ end ∷ []) s log next (end_shows f b us log s st) e a)
  goes_on (v ∷ vs) phase p us s log next st e a = none_not next e
