-- Ruling out what a field names.
use Rattle.std.proofs.Common.{◌≡◌, ℕ, ◌+◌, ◌-◌, ◌≤◌, Bool, true, false, cond, not, eqb, ltb, List, [], ◌∷◌, ◌++◌, length, get_or, None, Option, sym, refl, ap, ◌∙◌, subst, ap₂, append-nil, arith}
use Rattle.std.proofs.lemmas.List.{map_push}
use Rattle.std.proofs.lemmas.Bool.{ltb-false, or_parts}
use Rattle.model.specs.Answers.{Answer, accepted, refuse, refused}
use Rattle.model.specs.Sets.{has, held_in_all}
use Rattle.meaning.specs.Cells.{over}
use Rattle.meaning.specs.Life.{Life, Shown, act, backward_marks, forward_marks, lives, marked}
use Rattle.meaning.specs.Models.{yes_no}
use Rattle.meaning.specs.Plan.{Shows, State, does}
use Rattle.meaning.specs.Problems.{Problem, fitting, in_range, is_empty, kinds_of, needed, short, support, without}
use Rattle.meaning.specs.Register.{Call, Register, after, answers, rule_out, start, step}
use Rattle.meaning.proofs.Grid.{over_long, over_over}
use Rattle.meaning.proofs.Nested.{sets_sound_lem}
use Rattle.meaning.proofs.Steps.{Good, call_shows_lem}
use Rattle.marking.proofs.Marked.{ahead_long, back_long}
use Rattle.fields.specs.Values.{Value, rule_out_field, end}
use Rattle.sequence.specs.declared.ruled.Ruled.{Ruled}
use Rattle.sequence.specs.Words.{is_accepted, number}
use Rattle.sequence.proofs.Passing.{accepted_is}
use Rattle.reader.specs.Holding.{Holding, operate, rule_on, ruled_as}
use Rattle.outcomes.specs.Named.{calls_named, kinds_named}
use Rattle.outcomes.specs.Outcomes.{Showing}
use Rattle.outcomes.proofs.Settles.{gone_said}
use Rattle.outcomes.proofs.Naming.{after_more, answers_more, calls_more, goal_more, kinds_more}

-- a refused rule-out leaves the state
four : {S : Type 0} (s t : S) (m n : ℕ) (x y z w : Bool)
    → (refuse s x 7 (refuse s y 10 (refuse s z 11 (refuse s w 8 (t, accepted m))))).1 ≡ refused n
    → (refuse s x 7 (refuse s y 10 (refuse s z 11 (refuse s w 8 (t, accepted m))))).0 ≡ s
four s t m n false false false false e = cc
four s t m n x y z w e = refl

stays : (c : Problem) (s : State) (k d f b n : ℕ) → (does c s (rule_out k d f b)).1 ≡ refused n → (does c s (rule_out k d f b)).0 ≡ s
stays c s k d f b n e =
    let rest : List (List ℕ) = without (k - 1) d (fitting c s.standing) in
    four s (record { standing = support (kinds_of c) rest; noted = s.noted }) (held_in_all s.standing - held_in_all (support (kinds_of c) rest)) n
    (short c f b) (not (in_range c k d)) (not (has (get_or s.standing (k - 1) 0) d)) (is_empty rest) e

module _ (c : Problem) (s : State) (r : Register) (sh : Shows c s r) where
  pub ahead_count : length (forward_marks (lives c s)) ≡ needed c
  ahead_count = ahead_long yes_no c.kinds s.standing (c.goal.top + 1) (sets_sound_lem c s r sh).long

  pub back_count : length (backward_marks (lives c s)) ≡ needed c
  back_count = back_long c.goal.admits c.kinds s.standing (c.goal.top + 1) (sets_sound_lem c s r sh).long

roomy : (c : Problem) (f b : ℕ) → short c f b ≡ false → (needed c ≤ f) × (needed c ≤ b)
roomy c f b e = let p = or_parts (ltb f (needed c)) (ltb b (needed c)) e in (ltb-false f (needed c) p.0, ltb-false b (needed c) p.1)

module _ (f b : List ℕ) (us : List Value) (log : List Ruled) (h : Holding) (sh : Showing f b us log h) where
  abbrev c : Problem
  c = sh.problem

  abbrev s : State
  s = sh.state

  abbrev xs : List Call
  xs = calls_named (length f) (length b) us

  abbrev r : Register
  r = after c start xs

  ahead_same : length h.forward ≡ length f
  ahead_same =
      ap length sh.ahead
      ∙ over_long (forward_marks (lives c s)) f (omega (arith, ahead_count c s r sh.register, (roomy c (length f) (length b) sh.room).0))

  back_same : length h.backward ≡ length b
  back_same =
      ap length sh.back
      ∙ over_long (backward_marks (lives c s)) b (omega (arith, back_count c s r sh.register, (roomy c (length f) (length b) sh.room).1))

  -- the end names nothing
  pub end_shows : Showing f b (us ++ end ∷ []) log h
  end_shows =
      let ks = kinds_more us (end ∷ []) ∙ append-nil (kinds_named us) in
      let cs : calls_named (length f) (length b) (us ++ end ∷ []) ≡ xs = calls_more (length f) (length b) us (end ∷ []) ∙ append-nil xs in
      record {
        problem = c;
        state = s;
        case = sh.case ∙ sym ks;
        life = sh.life;
        kinds = sh.kinds ∙ sym ks;
        goal = goal_more None us (end ∷ []) ∙ sh.goal;
        room = sh.room;
        register = subst (λ (ys : List Call). Shown (lives c s) (after c start ys)) (sym cs) sh.register;
        rows = sh.rows ∙ sym cs;
        answered = sh.answered ∙ ap (answers c start) (sym cs);
        ahead = sh.ahead;
        back = sh.back;
      }

  module _ (k d : ℕ) where
    abbrev x : Call
    x = rule_out k d (length f) (length b)

    abbrev done : State × Answer
    done = does c s x

    good : Good c (does c s x) (step c r x)
    good = call_shows_lem c s r x sh.register

    operate_is : operate h (rule_out_field k d) ≡ ruled_as h (lives c done.0, done.1)
    operate_is =
        ap (λ (o : Option Life). rule_on h o k d) sh.life
        ∙ ap₂ (λ (m n : ℕ). ruled_as h (act (lives c s) (rule_out k d m n))) ahead_same back_same

    -- the marks of the state afterwards, written over those before
    ahead_now : over (forward_marks (lives c done.0)) h.forward ≡ over (forward_marks (lives c done.0)) f
    ahead_now =
        ap (over (forward_marks (lives c done.0))) sh.ahead
        ∙ over_over (forward_marks (lives c done.0)) (forward_marks (lives c s)) f (ahead_count c done.0 (step c r x).0 good.0 ∙ sym (ahead_count c s r sh.register))

    back_now : over (backward_marks (lives c done.0)) h.backward ≡ over (backward_marks (lives c done.0)) b
    back_now =
        ap (over (backward_marks (lives c done.0))) sh.back
        ∙ over_over (backward_marks (lives c done.0)) (backward_marks (lives c s)) b (back_count c done.0 (step c r x).0 good.0 ∙ sym (back_count c s r sh.register))

    abbrev row : ℕ → Ruled
    row n = record { kind = k; count = d; gone = n }

    shows_more : (n : ℕ) → done.1 ≡ accepted n → Showing f b (us ++ rule_out_field k d ∷ []) (log ++ row n ∷ []) (ruled_as h (lives c done.0, done.1)).0
    shows_more n e =
        let ks = kinds_more us (rule_out_field k d ∷ []) ∙ append-nil (kinds_named us) in
        let cs : calls_named (length f) (length b) (us ++ rule_out_field k d ∷ []) ≡ xs ++ x ∷ [] = calls_more (length f) (length b) us (rule_out_field k d ∷ []) in
        let said : (step c r x).1 ≡ accepted n = sym good.1 ∙ e in
        record {
          problem = c;
          state = done.0;
          case = sh.case ∙ sym ks;
          life = refl;
          kinds = sh.kinds ∙ sym ks;
          goal = goal_more None us (rule_out_field k d ∷ []) ∙ sh.goal;
          room = sh.room;
          register = subst (λ (ys : List Call). Shown (lives c done.0) (after c start ys)) (sym cs) (subst (λ (q : Register). Shown (lives c done.0) q) (sym (after_more c start xs x)) good.0);
          rows =
              map_push (λ (y : Ruled). rule_out y.kind y.count (length f) (length b)) log (row n)
              ∙ (ap (λ (l : List Call). l ++ x ∷ []) sh.rows ∙ sym cs);
          answered =
              map_push gone_said log (row n)
              ∙ (ap₂ (λ (l : List Answer) (a : Answer). l ++ a ∷ []) sh.answered (sym said) ∙ (sym (answers_more c start xs x) ∙ ap (answers c start) (sym cs)));
          ahead = ap (λ (a : Answer). marked (forward_marks (lives c done.0)) a h.forward) e ∙ ahead_now;
          back = ap (λ (a : Answer). marked (backward_marks (lives c done.0)) a h.backward) e ∙ back_now;
        }

    pub rule_shows : is_accepted (operate h (rule_out_field k d)).1 ≡ true
        → Showing f b (us ++ rule_out_field k d ∷ []) (log ++ row (number (operate h (rule_out_field k d)).1) ∷ []) (operate h (rule_out_field k d)).0
    rule_shows a =
        subst (λ (y : Holding × Answer). is_accepted y.1 ≡ true → Showing f b (us ++ rule_out_field k d ∷ []) (log ++ row (number y.1) ∷ []) y.0) (sym operate_is)
        (λ q. shows_more (number done.1) (accepted_is done.1 q)) a

    marked_same : (marks before table : List ℕ) (n : ℕ) (t : Bool) → before ≡ over marks table → over marks before ≡ over marks table
        → cond t (over marks before) before ≡ over marks table
    marked_same marks before table n true e g = g
    marked_same marks before table n false e g = e

    shows_same : (n : ℕ) → done.1 ≡ refused n → Showing f b us log (ruled_as h (lives c done.0, done.1)).0
    shows_same n e =
        let st : done.0 ≡ s = stays c s k d (length f) (length b) n e in
        record {
          problem = c;
          state = done.0;
          case = sh.case;
          life = refl;
          kinds = sh.kinds;
          goal = sh.goal;
          room = sh.room;
          register = subst (λ (z : State). Shown (lives c z) r) (sym st) sh.register;
          rows = sh.rows;
          answered = sh.answered;
          ahead =
              ap (λ (a : Answer). marked (forward_marks (lives c done.0)) a h.forward) e
              ∙ marked_same (forward_marks (lives c done.0)) h.forward f n (eqb n 8)
              (sh.ahead ∙ ap (λ (z : State). over (forward_marks (lives c z)) f) (sym st)) ahead_now;
          back =
              ap (λ (a : Answer). marked (backward_marks (lives c done.0)) a h.backward) e
              ∙ marked_same (backward_marks (lives c done.0)) h.backward b n (eqb n 8)
              (sh.back ∙ ap (λ (z : State). over (backward_marks (lives c z)) b) (sym st)) back_now;
        }

    -- a refusal is the register's, and the plan shows what it showed
    pub rule_stops : (n : ℕ) → (operate h (rule_out_field k d)).1 ≡ refused n
        → (now : Showing f b us log (operate h (rule_out_field k d)).0) × ((step now.problem (after now.problem start xs) x).1 ≡ refused n)
    unfolding shows_same
    rule_stops n e =
        subst (λ (y : Holding × Answer). y.1 ≡ refused n → (now : Showing f b us log y.0) × ((step now.problem (after now.problem start xs) x).1 ≡ refused n)) (sym operate_is)
        (λ q. (shows_same n q, sym good.1 ∙ q)) e
