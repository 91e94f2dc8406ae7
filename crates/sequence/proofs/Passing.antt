-- Fields in sequence whose calls are all accepted pass.
use Rattle.std.proofs.Common.{◌≡◌, ℕ, ◌+◌, Bool, true, false, List, [], ◌∷◌, ◌++◌, length, Some, None, Option, sym, refl, ap, ◌∙◌, subst, append_assoc, arith, length-append}
use Rattle.std.specs.List.{AllByRecursion}
use Rattle.fields.specs.Values.{Value, end, field, write, Fine}
use Rattle.fields.specs.Reading.{Stop, closed, fields, is_end, Open}
use Rattle.fields.proofs.Laws.{reads, end_is}
use Rattle.sequence.specs.declared.phase.Phase.{Phase}
use Rattle.sequence.specs.declared.phase.Phase.TheVariants.{Done}
use Rattle.sequence.specs.declared.ruled.Ruled.{Ruled}
use Rattle.model.specs.Answers.{Answer, accepted, refused}
use Rattle.sequence.specs.Machines.{Machine, Operation, of, settled, acting, settling}
use Rattle.sequence.specs.Sequence.{follow, owes, is_done, reach}
use Rattle.sequence.specs.Running.{noted, goes, operated, settled_first, in_sequence, turn, stopped, on_turn, runs}
use Rattle.sequence.specs.Words.{due, own, calls_on, calls, is_accepted, number, AllAccepted}
use Rattle.sequence.proofs.Ahead.{follow_end}
use Rattle.sequence.proofs.Order.{done_nil, on_reach}
use Rattle.sequence.proofs.Calling.{done_is}

pub accepted_is : (a : Answer) → is_accepted a ≡ true → a ≡ accepted (number a)
accepted_is (accepted n) e = refl
accepted_is (refused n) e = cc

settle_go : {S : Type 0} (m : Machine S) (s : S) (g : Option ℕ) (cs : List Operation) → AllAccepted m s (due g cs)
    → (k : ℕ) × ((settling m s g).1 ≡ accepted k) × AllAccepted m (settling m s g).0 cs
settle_go m s None cs h = (0, refl, h)
settle_go m s (Some g) cs h = (number (m s settled).1, accepted_is (m s settled).1 h.0, h.1)

own_go : {S : Type 0} (m : Machine S) (s : S) (v : Value) (cs : List Operation) → AllAccepted m s (own v cs)
    → (k : ℕ) × ((acting m s v).1 ≡ accepted k) × AllAccepted m (acting m s v).0 cs
own_go m s end cs h = (0, refl, h)
own_go m s v cs h = (number (m s (of v)).1, accepted_is (m s (of v)).1 h.0, h.1)

turn_goes : {S : Type 0} (m : Machine S) (phase to : Phase) (p : ℕ) (v : Value) (s : S) (log : List Ruled) (cs : List Operation)
    → follow phase p v ≡ Some to → AllAccepted m s (due (owes phase v) (own v cs))
    → (t : S) × (log' : List Ruled) × (turn m phase p v s log ≡ goes to t log') × AllAccepted m t cs
turn_goes m phase to p v s log cs w h =
    let a = settle_go m s (owes phase v) (own v cs) h in
    let b = own_go m (settling m s (owes phase v)).0 v cs a.2 in (
      (acting m (settling m s (owes phase v)).0 v).0,
      noted v b.0 log,
      ap (in_sequence m p v s log (owes phase v)) w
          ∙ (ap (settled_first m to p v log (owes phase v) (settling m s (owes phase v)).0) a.1
          ∙ ap (operated to p v log (acting m (settling m s (owes phase v)).0 v).0) b.1),
      b.2,
    )

pub runs_all : {S : Type 0} (m : Machine S) (stop : Stop) (vs : List Value) (n : Phase) (phase : Phase) (p : ℕ) (s : S) (log : List Ruled)
    → reach phase p vs ≡ Some n → AllAccepted m s (calls phase p vs) → (runs m stop vs phase p s log).fault ≡ stopped stop (p + length (write vs))
runs_all m stop [] n phase p s log r h = ap (stopped stop) (omega arith)
runs_all m stop (v ∷ vs) n phase p s log r h =
    let w = on_reach (follow phase p v) (λ next. reach next (p + length (field v)) vs) n r in
    let a = subst (λ o. AllAccepted m s (due (owes phase v) (own v (calls_on o (λ next. calls next (p + length (field v)) vs))))) w.1 h in
    let x = turn_goes m phase w.0 p v s log (calls w.0 (p + length (field v)) vs) w.1 a in
    ap (λ u. (on_turn u (runs m stop vs) (p + length (field v))).fault) x.2
    ∙ (runs_all m stop vs n w.0 (p + length (field v)) x.0 x.1 w.2 x.3
    ∙ ap (stopped stop) (omega (arith, length-append (field v) (write vs))))

-- fields in sequence up to the end have it last
abbrev Lasts : List Value → Type 0
Lasts vs = (us : List Value) × (vs ≡ us ++ (end ∷ [])) × Open us

lasts_by : (v : Value) (vs : List Value) (n : Phase) (p : ℕ) (b : Bool) → is_end v ≡ b → is_done n ≡ b → reach n p vs ≡ Some Done
    → (is_done n ≡ false → Lasts vs) → Lasts (v ∷ vs)
lasts_by v vs n p true o d e again =
    ([], ap (λ (x : Value). x ∷ vs) (end_is v o) ∙ ap (λ (t : List Value). end ∷ t) (done_nil vs p (subst (λ (x : Phase). reach x p vs ≡ Some Done) (done_is n d) e)), tt)
lasts_by v vs n p false o d e again = let r = again d in (v ∷ r.0, ap (λ (t : List Value). v ∷ t) r.1, (o, r.2))

pub lasts : (vs : List Value) (phase : Phase) (p : ℕ) → is_done phase ≡ false → reach phase p vs ≡ Some Done → Lasts vs
lasts [] phase p d e = let s : phase ≡ Done = cc in let t = ap is_done s in cc
lasts (v ∷ vs) phase p d e =
    let r = on_reach (follow phase p v) (λ next. reach next (p + length (field v)) vs) Done e in
    lasts_by v vs r.0 (p + length (field v)) (is_end v) refl (follow_end phase p v r.0 r.1) r.2 (λ h. lasts vs r.0 (p + length (field v)) h r.2)

pub write_append : (us ws : List Value) → write (us ++ ws) ≡ write us ++ write ws
write_append [] ws = refl
write_append (u ∷ us) ws = ap (λ (t : List ℕ). field u ++ t) (write_append us ws) ∙ sym (append_assoc (field u) (write us) (write ws))

pub fine_front : (us ws : List Value) → AllByRecursion Fine (us ++ ws) → AllByRecursion Fine us
fine_front [] ws h = tt
fine_front (u ∷ us) ws h = (h.0, fine_front us ws h.1)

pub fine_back : (us ws : List Value) → AllByRecursion Fine (us ++ ws) → AllByRecursion Fine ws
fine_back [] ws h = h
fine_back (u ∷ us) ws h = fine_back us ws h.1

-- the writing of such fields reads as them, to the last byte
pub fields_whole : (vs : List Value) → Lasts vs → AllByRecursion Fine vs → fields (write vs) ≡ record { values = vs; stop = closed [] }
fields_whole vs l fine =
    let f : AllByRecursion Fine (l.0 ++ (end ∷ [])) = subst (AllByRecursion Fine) l.1 fine in
    ap fields (ap write l.1 ∙ write_append l.0 (end ∷ []))
    ∙ (reads l.0 [] (fine_front l.0 (end ∷ []) f) l.2 ∙ ap (λ (t : List Value). record { values = t; stop = closed [] }) (sym l.1))
