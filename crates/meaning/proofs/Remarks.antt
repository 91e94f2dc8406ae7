-- The lent tables over a list of calls: they go on holding the marks of the plan.
use Rattle.std.proofs.Common.{◌≡◌, ℕ, zero, suc, ◌+◌, ◌-◌, ◌*◌, ◌≤◌, Bool, true, false, cond, not, eqb, ltb, leb, List, [], ◌∷◌, ◌++◌, length, get_or, take, drop, sym, refl, ap, ◌∙◌, subst, append_assoc, arith}
use Rattle.std.proofs.lemmas.List.{take-append-drop}
use Rattle.std.proofs.lemmas.Bool.{false≢true, ltb-false, or_parts}
use Rattle.model.specs.Goals.{Target}
use Rattle.model.specs.Answers.{Answer, accepted, refuse, refused}
use Rattle.model.specs.declared.kind.Kind.{Kind}
use Rattle.model.specs.Parts.{parts}
use Rattle.model.specs.Sets.{has}
use Rattle.meaning.specs.Cells.{over, tallies, tallies_back}
use Rattle.meaning.specs.Life.{Called, Life, Remarks, act, backward_marks, blank, forward_marks, lives, marked, remarked, wide}
use Rattle.meaning.specs.Models.{yes_no}
use Rattle.meaning.specs.Plan.{State, close_keep, close_withdraw, does}
use Rattle.meaning.specs.Problems.{Problem, fitting, in_range, is_empty, kinds_of, needed, short, without}
use Rattle.meaning.specs.Register.{Call, branch, keep, rule_out, withdraw}
use Rattle.meaning.specs.Tallies.{tally_at, tally_past}
use Rattle.meaning.proofs.Grid.{grid_long, over_over}
use Rattle.meaning.specs.View.{life_of}
use Rattle.meaning.proofs.Lists.{long_take}
use Rattle.meaning.proofs.Rows.{length_parts}

never : (n k : ℕ) → accepted n ≡ refused k → ⊥
never n k e = let z : ◌≡◌ {A = ℕ} 0 1 = cc in omega arith

-- a plan that lives has a standing set for each kind
abbrev pub Whole : Life → Type 0
Whole (blank g) = Unit {0}
Whole (lives c s) = length s.standing ≡ kinds_of c

pub whole_life : (t : Target) (n : ℕ) (kinds : List Kind) (standing : List ℕ) (noted : List (List ℕ)) (k : ℕ) → n ≤ length standing → n ≤ length kinds → Whole (life_of t n kinds standing noted k)
whole_life t zero kinds standing noted k h l = tt
whole_life t (suc n) kinds standing noted k h l = long_take (suc n) standing h ∙ sym (long_take (suc n) kinds l)

-- a call that may be refused leaves s then
abbrev Stays : {S : Type 0} → S → S × Answer → Type 0
Stays s y = (k : ℕ) → y.1 ≡ refused k → y.0 ≡ s

module _ {S : Type 0} where
  stays_test : (s : S) (t : Bool) (n : ℕ) (y : S × Answer) → Stays s y → Stays s (refuse s t n y)
  stays_test s true n y h k e = refl
  stays_test s false n y h k e = h k e

  stays_goes : (s next : S) (n : ℕ) → Stays s (next, accepted n)
  stays_goes s next n k e = absurd (never n k e)

  stays_four : (s next : S) (n : ℕ) (t₇ t₁₀ t₁₁ t₈ : Bool) → Stays s (refuse s t₇ 7 (refuse s t₁₀ 10 (refuse s t₁₁ 11 (refuse s t₈ 8 (next, accepted n)))))
  stays_four s next n t₇ t₁₀ t₁₁ t₈ =
      let x : S × Answer = (next, accepted n) in
      stays_test s t₇ 7 (refuse s t₁₀ 10 (refuse s t₁₁ 11 (refuse s t₈ 8 x)))
      (stays_test s t₁₀ 10 (refuse s t₁₁ 11 (refuse s t₈ 8 x)) (stays_test s t₁₁ 11 (refuse s t₈ 8 x) (stays_test s t₈ 8 x (stays_goes s next n))))

stays_keep : (s : State) (ts : List (List ℕ)) → Stays s (close_keep s ts)
stays_keep s [] k e = refl
stays_keep s (t ∷ ts) k e = absurd (never (length ts) k e)

stays_withdraw : (s : State) (ts : List (List ℕ)) → Stays s (close_withdraw s ts)
stays_withdraw s [] k e = refl
stays_withdraw s (t ∷ ts) k e = absurd (never _ k e)

does_stays : (c : Problem) (s : State) (x : Call) → Stays s (does c s x)
does_stays c s (rule_out i d f b) =
    stays_four s _ _ (short c f b) (not (in_range c i d)) (not (has (get_or s.standing (i - 1) 0) d)) (is_empty (without (i - 1) d (fitting c s.standing)))
does_stays c s branch = stays_test s (leb 8 (length s.noted)) 12 _ (stays_goes s (record { standing = s.standing; noted = s.standing ∷ s.noted }) (length s.noted + 1))
does_stays c s (keep number) = stays_test s (not (eqb number (length s.noted))) 13 (close_keep s s.noted) (stays_keep s s.noted)
does_stays c s (withdraw number f b) =
    stays_test s (short c f b) 7 (refuse s (not (eqb number (length s.noted))) 13 (close_withdraw s s.noted))
    (stays_test s (not (eqb number (length s.noted))) 13 (close_withdraw s s.noted) (stays_withdraw s s.noted))

-- a refused call leaves the plan as it was
pub act_stays : (l : Life) (x : Call) (k : ℕ) → (act l x).1 ≡ refused k → (act l x).0 ≡ l
act_stays (blank g) x k e = refl
act_stays (lives c s) x k e = ap (lives c) (does_stays c s x k e)

drop_part : (m f : ℕ) (cells : List ℕ) → m ≤ f → drop m (take f cells) ++ drop f cells ≡ drop m cells
drop_part zero f cells h = take-append-drop f cells
drop_part (suc m) zero cells h = absurd (omega arith)
drop_part (suc m) (suc f) [] h = refl
drop_part (suc m) (suc f) (x ∷ cells) h = drop_part m f cells (omega arith)

over_part : (marks cells : List ℕ) (f : ℕ) → length marks ≤ f → over marks (take f cells) ++ drop f cells ≡ over marks cells
over_part marks cells f h =
    append_assoc marks (drop (length marks) (take f cells)) (drop f cells) ∙ ap (λ zs. marks ++ zs) (drop_part (length marks) f cells h)

-- the first f cells of a slice were written over, or not
on_part : (b : Bool) (old new : List ℕ) (f : ℕ) → (b ≡ true → length new ≤ f) → length new ≡ length old → (b ≡ false → new ≡ old)
    → (entry exit : List ℕ) → exit ≡ cond b (over new (take f entry)) (take f entry) ++ drop f entry → Remarks old new entry exit
on_part true old new f fit size same entry exit e below is = e ∙ over_part new entry f (fit refl) ∙ ap (over new) is ∙ over_over new old below size
on_part false old new f fit size same entry exit e below is = e ∙ take-append-drop f entry ∙ is ∙ ap (λ zs. over zs below) (sym (same refl))

-- a call wrote the marks: accepted, or refused 8
abbrev touched : Answer → Bool
touched (accepted n) = true
touched (refused k) = eqb k 8

abbrev goes : Answer → Bool
goes (accepted n) = true
goes (refused k) = false

marked_is : (marks : List ℕ) (a : Answer) (cells : List ℕ) → marked marks a cells ≡ cond (touched a) (over marks cells) cells
marked_is marks (accepted n) cells = refl
marked_is marks (refused k) cells = refl

remarked_is : (marks : List ℕ) (a : Answer) (cells : List ℕ) → remarked marks a cells ≡ cond (goes a) (over marks cells) cells
remarked_is marks (accepted n) cells = refl
remarked_is marks (refused k) cells = refl

untouched : (l : Life) (x : Call) (a : Answer) → a ≡ (act l x).1 → touched a ≡ false → (act l x).0 ≡ l
untouched l x (accepted n) e h = absurd (false≢true (sym h))
untouched l x (refused k) e h = act_stays l x k (sym e)

stayed : (l : Life) (x : Call) (a : Answer) → a ≡ (act l x).1 → goes a ≡ false → (act l x).0 ≡ l
stayed l x (accepted n) e h = absurd (false≢true (sym h))
stayed l x (refused k) e h = act_stays l x k (sym e)

not_short : {S : Type 0} (s : S) (t : Bool) (y : S × Answer) → touched (refuse s t 7 y).1 ≡ true → t ≡ false
not_short s true y e = absurd (false≢true e)
not_short s false y e = refl

going : (a : Answer) → goes a ≡ true → touched a ≡ true
going (accepted n) e = refl
going (refused k) e = absurd (false≢true e)

-- both tables have room for the marks
abbrev Room : Life → ℕ → ℕ → Type 0
Room (blank g) f b = Unit {0}
Room (lives c s) f b = (needed c ≤ f) × (needed c ≤ b)

long : (c : Problem) (f b : ℕ) → short c f b ≡ false → (needed c ≤ f) × (needed c ≤ b)
long c f b e =
    let two = or_parts (ltb f (needed c)) (ltb b (needed c)) e in
    (ltb-false f (needed c) two.0, ltb-false b (needed c) two.1)

ruled_room : (l : Life) (i d f b : ℕ) → touched (act l (rule_out i d f b)).1 ≡ true → Room l f b
ruled_room (blank g) i d f b e = tt
ruled_room (lives c s) i d f b e = long c f b (not_short s (short c f b) _ e)

withdrawn_room : (l : Life) (n f b : ℕ) → touched (act l (withdraw n f b)).1 ≡ true → Room l f b
withdrawn_room (blank g) n f b e = tt
withdrawn_room (lives c s) n f b e = long c f b (not_short s (short c f b) _ e)

-- The marks of one direction: as many as a table needs, and the same where the same counts stand.
pub record Direction (M : Life → List ℕ) : Type 0 where
  pub none : (g : Target) → M (blank g) ≡ []
  pub size : (c : Problem) (s : State) → length s.standing ≡ kinds_of c → length (M (lives c s)) ≡ needed c
  pub same : (c : Problem) (s t : State) → t.standing ≡ s.standing → M (lives c t) ≡ M (lives c s)

pub ahead : Direction forward_marks
ahead = record {
  none = λ g. refl;
  size = λ c s e. grid_long (length (parts c.kinds s.standing) + 1) (wide c.goal) (λ i b. tally_at yes_no (take i (parts c.kinds s.standing)) b)
      ∙ ap (λ n. (n + 1) * wide c.goal) (length_parts c.kinds s.standing e);
  same = λ c s t e. ap (λ (ss : List ℕ). tallies yes_no (parts c.kinds ss) (wide c.goal)) e;
}

pub back : Direction backward_marks
back = record {
  none = λ g. refl;
  size = λ c s e. grid_long (length (parts c.kinds s.standing) + 1) (wide c.goal) (λ i b. tally_past yes_no c.goal.admits (drop i (parts c.kinds s.standing)) b)
      ∙ ap (λ n. (n + 1) * wide c.goal) (length_parts c.kinds s.standing e);
  same = λ c s t e. ap (λ (ss : List ℕ). tallies_back yes_no c.goal.admits (parts c.kinds ss) (wide c.goal)) e;
}

module _ (M : Life → List ℕ) (dir : Direction M) where
  sizes : (l : Life) (x : Call) → Whole l → Whole (act l x).0 → length (M (act l x).0) ≡ length (M l)
  sizes (blank g) x w v = refl
  sizes (lives c s) x w v = dir.size c (does c s x).0 v ∙ sym (dir.size c s w)

  fits_in : (l : Life) (x : Call) (f b k : ℕ) → Whole (act l x).0 → (needed-k : (c : Problem) → (needed c ≤ f) × (needed c ≤ b) → needed c ≤ k) → Room l f b → length (M (act l x).0) ≤ k
  fits_in (blank g) x f b k v pick room = let z : length (M (blank g)) ≡ 0 = ap length (dir.none g) in omega (arith, z)
  fits_in (lives c s) x f b k v pick room = let z : length (M (lives c (does c s x).0)) ≡ needed c = dir.size c (does c s x).0 v in omega (arith, z, pick c room)

  -- after a rule out that got the first k cells
  pub ruled_on : (l last : Life) (i d f b k : ℕ) (a : Answer) → ((c : Problem) → (needed c ≤ f) × (needed c ≤ b) → needed c ≤ k) → Called l (rule_out i d f b) last a → Whole l → Whole last
      → (entry exit : List ℕ) → exit ≡ marked (M last) a (take k entry) ++ drop k entry → Remarks (M l) (M last) entry exit
  ruled_on l last i d f b k a pick called w v entry exit e =
      let x = rule_out i d f b in
      let v' : Whole (act l x).0 = subst Whole called.life v in
      let P : Life → Type 0 = λ z. Remarks (M l) (M z) entry exit in
      subst P (sym called.life)
      (on_part (touched a) (M l) (M (act l x).0) k
      (λ h. fits_in l x f b k v' pick (ruled_room l i d f b (ap touched (sym called.answer) ∙ h)))
      (sizes l x w v')
      (λ h. ap M (untouched l x a called.answer h))
      entry exit
      (e ∙ ap (λ z. marked (M z) a (take k entry) ++ drop k entry) called.life ∙ ap (λ zs. zs ++ drop k entry) (marked_is (M (act l x).0) a (take k entry))))

  -- after a withdraw that got the first k cells
  pub withdrawn_on : (l last : Life) (n f b k : ℕ) (a : Answer) → ((c : Problem) → (needed c ≤ f) × (needed c ≤ b) → needed c ≤ k) → Called l (withdraw n f b) last a → Whole l → Whole last
      → (entry exit : List ℕ) → exit ≡ remarked (M last) a (take k entry) ++ drop k entry → Remarks (M l) (M last) entry exit
  withdrawn_on l last n f b k a pick called w v entry exit e =
      let x = withdraw n f b in
      let v' : Whole (act l x).0 = subst Whole called.life v in
      let P : Life → Type 0 = λ z. Remarks (M l) (M z) entry exit in
      subst P (sym called.life)
      (on_part (goes a) (M l) (M (act l x).0) k
      (λ h. fits_in l x f b k v' pick (withdrawn_room l n f b (ap touched (sym called.answer) ∙ going a h)))
      (sizes l x w v')
      (λ h. ap M (stayed l x a called.answer h))
      entry exit
      (e ∙ ap (λ z. remarked (M z) a (take k entry) ++ drop k entry) called.life ∙ ap (λ zs. zs ++ drop k entry) (remarked_is (M (act l x).0) a (take k entry))))

  -- branch and keep leave what stands, so the tables hold the marks as they are
  still : (y : State × Answer) (s : State) (t : Bool) (k : ℕ) → y.0.standing ≡ s.standing → (refuse s t k y).0.standing ≡ s.standing
  still y s true k e = refl
  still y s false k e = e

  still_keep : (s : State) (ts : List (List ℕ)) → (close_keep s ts).0.standing ≡ s.standing
  still_keep s [] = refl
  still_keep s (t ∷ ts) = refl

  pub branched_on : (l last : Life) (a : Answer) → Called l branch last a → (cells : List ℕ) → Remarks (M l) (M last) cells cells
  branched_on (blank g) last a called cells below is = is ∙ ap (λ z. over (M z) below) (sym called.life)
  branched_on (lives c s) last a called cells below is =
      is ∙ ap (λ zs. over zs below) (sym (ap M called.life ∙ dir.same c s (does c s branch).0 (still (record { standing = s.standing; noted = s.standing ∷ s.noted }, accepted (length s.noted + 1)) s (leb 8 (length s.noted)) 12 refl)))

  pub kept_on : (l last : Life) (n : ℕ) (a : Answer) → Called l (keep n) last a → (cells : List ℕ) → Remarks (M l) (M last) cells cells
  kept_on (blank g) last n a called cells below is = is ∙ ap (λ z. over (M z) below) (sym called.life)
  kept_on (lives c s) last n a called cells below is =
      is ∙ ap (λ zs. over zs below) (sym (ap M called.life ∙ dir.same c s (does c s (keep n)).0 (still (close_keep s s.noted) s (not (eqb n (length s.noted))) 13 (still_keep s s.noted))))

-- A call that got a part of each table.
pub record Made (l : Life) (x : Call) (last : Life) (a : Answer) (forward forward' backward backward' : List ℕ) : Type 0 where
  pub does : Called l x last a
  pub ahead_on : Remarks (forward_marks l) (forward_marks last) forward forward'
  pub back_on : Remarks (backward_marks l) (backward_marks last) backward backward'

module _ (l last : Life) (a a' : Answer) (f b f' b' : ℕ) (forward backward part part' : List ℕ) where
  pub made_rule_out : (i d : ℕ) → Called l (rule_out i d (length (take f forward)) (length (take b backward))) last a → f ≤ length forward → b ≤ length backward
      → f ≡ f' → b ≡ b' → a' ≡ a → Whole l → Whole last → part ≡ marked (forward_marks last) a (take f forward) → part' ≡ marked (backward_marks last) a (take b backward)
      → Made l (rule_out i d f' b') last a' forward (part ++ drop f forward) backward (part' ++ drop b backward)
  made_rule_out i d called hf hb ef eb ea w v p q =
      let C : ℕ → ℕ → Answer → Type 0 = λ x y z. Called l (rule_out i d x y) last z in
      let C₁ : ℕ → Type 0 = λ x. C x (length (take b backward)) a in
      let C₂ : ℕ → Type 0 = λ y. C f y a in
      let at : C f b a = subst C₂ (long_take b backward hb) (subst C₁ (long_take f forward hf) called) in
      let D₁ : ℕ → Type 0 = λ x. C x b a in
      let D₂ : ℕ → Type 0 = λ y. C f' y a in
      let D₃ : Answer → Type 0 = λ z. C f' b' z in
      record {
        does = subst D₃ (sym ea) (subst D₂ eb (subst D₁ ef at));
        ahead_on = ruled_on forward_marks ahead l last i d f b f a (λ c r. r.0) at w v forward (part ++ drop f forward) (ap (λ zs. zs ++ drop f forward) p);
        back_on = ruled_on backward_marks back l last i d f b b a (λ c r. r.1) at w v backward (part' ++ drop b backward) (ap (λ zs. zs ++ drop b backward) q);
      }

  pub made_withdraw : (n : ℕ) → Called l (withdraw n (length (take f forward)) (length (take b backward))) last a → f ≤ length forward → b ≤ length backward
      → f ≡ f' → b ≡ b' → a' ≡ a → Whole l → Whole last → part ≡ remarked (forward_marks last) a (take f forward) → part' ≡ remarked (backward_marks last) a (take b backward)
      → Made l (withdraw n f' b') last a' forward (part ++ drop f forward) backward (part' ++ drop b backward)
  made_withdraw n called hf hb ef eb ea w v p q =
      let C : ℕ → ℕ → Answer → Type 0 = λ x y z. Called l (withdraw n x y) last z in
      let C₁ : ℕ → Type 0 = λ x. C x (length (take b backward)) a in
      let C₂ : ℕ → Type 0 = λ y. C f y a in
      let at : C f b a = subst C₂ (long_take b backward hb) (subst C₁ (long_take f forward hf) called) in
      let D₁ : ℕ → Type 0 = λ x. C x b a in
      let D₂ : ℕ → Type 0 = λ y. C f' y a in
      let D₃ : Answer → Type 0 = λ z. C f' b' z in
      record {
        does = subst D₃ (sym ea) (subst D₂ eb (subst D₁ ef at));
        ahead_on = withdrawn_on forward_marks ahead l last n f b f a (λ c r. r.0) at w v forward (part ++ drop f forward) (ap (λ zs. zs ++ drop f forward) p);
        back_on = withdrawn_on backward_marks back l last n f b b a (λ c r. r.1) at w v backward (part' ++ drop b backward) (ap (λ zs. zs ++ drop b backward) q);
      }
