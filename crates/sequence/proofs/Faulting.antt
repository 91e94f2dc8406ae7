-- How a run that did not pass ended.
use Rattle.std.proofs.Common.{◌≡◌, ℕ, true, false, List, [], ◌∷◌, ◌++◌, Some, None, Option, sym, refl, ap, ◌∙◌, subst, append_assoc}
use Rattle.std.specs.List.{AllByRecursion}
use Rattle.fields.specs.Values.{Value, field, write, Fine}
use Rattle.fields.specs.Reading.{got, first, Stop, broken, closed, Left}
use Rattle.fields.proofs.Laws.{one}
use Rattle.fields.specs.Causes.{cause_number}
use Rattle.faults.specs.Faults.{Fault, fault_in_field, out_of_sequence, fault_in_plan}
use Rattle.sequence.specs.declared.phase.Phase.{Phase}
use Rattle.sequence.specs.declared.ruled.Ruled.{Ruled}
use Rattle.model.specs.Answers.{Answer, accepted, refused}
use Rattle.sequence.specs.Machines.{Machine, acting, settling}
use Rattle.sequence.specs.Sequence.{follow, owes, is_done}
use Rattle.sequence.specs.Running.{stops, operated, goal_place, settled_first, in_sequence, turn, Outcome, stopped}
use Rattle.sequence.specs.Words.{is_accepted, FaultAt, unread, beyond, unfit, unsettled, undone}
use Rattle.sequence.proofs.Tracks.{Ending}

-- the same fault
same : {S : Type 0} (m : Machine S) (n : Phase) (q : ℕ) (rest : List ℕ) (s : S) (x y : Fault) (t u : S) (log log' : List Ruled)
    → stops y u log ≡ stops x t log' → FaultAt m n q rest s y u → FaultAt m n q rest s x t × (log' ≡ log)
same {S = S} m n q rest s x y t u log log' e f =
    let a : y ≡ x = cc in
    let b : u ≡ t = cc in
    (subst (λ (z : Fault). FaultAt m n q rest s z t) a (subst (λ (w : S). FaultAt m n q rest s y w) b f), cc)

op_fault : {S : Type 0} (m : Machine S) (n to : Phase) (q : ℕ) (v : Value) (rest r : List ℕ) (s : S) (log : List Ruled) (x : Fault) (t : S) (log' : List Ruled) (a : Answer)
    → first rest ≡ got v r → follow n q v ≡ Some to → is_accepted (settling m s (owes n v)).1 ≡ true → (acting m (settling m s (owes n v)).0 v).1 ≡ a
    → operated to q v log (acting m (settling m s (owes n v)).0 v).0 a ≡ stops x t log' → FaultAt m n q rest s x t × (log' ≡ log)
op_fault m n to q v rest r s log x t log' (accepted k) f w z a e = cc
op_fault m n to q v rest r s log x t log' (refused k) f w z a e =
    same m n q rest s x (fault_in_plan q k) t (acting m (settling m s (owes n v)).0 v).0 log log' e (undone v r to k f w z a)

owed_fault : {S : Type 0} (m : Machine S) (n to : Phase) (q : ℕ) (v : Value) (rest r : List ℕ) (s : S) (g : Option ℕ) (k : ℕ)
    → first rest ≡ got v r → follow n q v ≡ Some to → owes n v ≡ g → (settling m s g).1 ≡ refused k
    → FaultAt m n q rest s (fault_in_plan (goal_place g) k) (settling m s g).0
owed_fault m n to q v rest r s None k f w o a = cc
owed_fault m n to q v rest r s (Some g) k f w o a = unsettled v r to g k f w o a

settle_fault : {S : Type 0} (m : Machine S) (n to : Phase) (q : ℕ) (v : Value) (rest r : List ℕ) (s : S) (log : List Ruled) (x : Fault) (t : S) (log' : List Ruled) (a : Answer)
    → first rest ≡ got v r → follow n q v ≡ Some to → (settling m s (owes n v)).1 ≡ a
    → settled_first m to q v log (owes n v) (settling m s (owes n v)).0 a ≡ stops x t log' → FaultAt m n q rest s x t × (log' ≡ log)
settle_fault m n to q v rest r s log x t log' (accepted k) f w a e =
    op_fault m n to q v rest r s log x t log' (acting m (settling m s (owes n v)).0 v).1 f w (ap is_accepted a) refl e
settle_fault m n to q v rest r s log x t log' (refused k) f w a e =
    same m n q rest s x (fault_in_plan (goal_place (owes n v)) k) t (settling m s (owes n v)).0 log log' e (owed_fault m n to q v rest r s (owes n v) k f w refl a)

in_fault : {S : Type 0} (m : Machine S) (n : Phase) (q : ℕ) (v : Value) (rest r : List ℕ) (s : S) (log : List Ruled) (x : Fault) (t : S) (log' : List Ruled) (o : Option Phase)
    → first rest ≡ got v r → follow n q v ≡ o → in_sequence m q v s log (owes n v) o ≡ stops x t log' → FaultAt m n q rest s x t × (log' ≡ log)
in_fault m n q v rest r s log x t log' None f w e = same m n q rest s x (out_of_sequence q) t s log log' e (unfit v r f w)
in_fault m n q v rest r s log x t log' (Some to) f w e = settle_fault m n to q v rest r s log x t log' (settling m s (owes n v)).1 f w refl e

pub turn_fault : {S : Type 0} (m : Machine S) (n : Phase) (q : ℕ) (v : Value) (rest r : List ℕ) (s : S) (log : List Ruled) (x : Fault) (t : S) (log' : List Ruled)
    → first rest ≡ got v r → turn m n q v s log ≡ stops x t log' → FaultAt m n q rest s x t × (log' ≡ log)
turn_fault m n q v rest r s log x t log' f e = in_fault m n q v rest r s log x t log' (follow n q v) f refl e

-- whether the end was reached where the fields stop
abbrev pub Closes : Stop → Phase → Type 0
Closes (broken c) n = is_done n ≡ false
Closes (closed r) n = is_done n ≡ true

stop_fault : {S : Type 0} (m : Machine S) (stop : Stop) (n : Phase) (q : ℕ) (rest : List ℕ) (s : S) (x : Fault)
    → stopped stop q ≡ Some x → Left stop rest → Closes stop n → FaultAt m n q rest s x s
stop_fault m (broken c) n q rest s x e l d =
    let a : ◌≡◌ {A = Fault} (fault_in_field q (cause_number c)) x = cc in subst (λ (z : Fault). FaultAt m n q rest s z s) a (unread c d l)
stop_fault m (closed []) n q rest s x e l d = cc
stop_fault m (closed (y ∷ ys)) n q rest s x e l d =
    let a : ◌≡◌ {A = Fault} (out_of_sequence q) x = cc in subst (λ (z : Fault). FaultAt m n q rest s z s) a (beyond y ys d l)

pub ending_fault : {S : Type 0} (m : Machine S) (stop : Stop) (n : Phase) (q : ℕ) (ws : List Value) (s : S) (log : List Ruled) (x : Fault) (t : S) (log' : List Ruled) (rest : List ℕ)
    → Ending m stop n q ws s log (record { fault = Some x; state = t; answers = log' }) → Left stop rest → (ws ≡ [] → Closes stop n) → AllByRecursion Fine ws
    → FaultAt m n q (write ws ++ rest) s x t × (log' ≡ log)
ending_fault {S = S} m stop n q [] s log x t log' rest e l d fine =
    let a : stopped stop q ≡ Some x = sym (ap (λ (o : Outcome S). o.fault) e) in
    let b : t ≡ s = ap (λ (o : Outcome S). o.state) e in
    (subst (λ (u : S). FaultAt m n q rest s x u) (sym b) (stop_fault m stop n q rest s x a l (d refl)), ap (λ (o : Outcome S). o.answers) e)
ending_fault {S = S} m stop n q (v ∷ ws) s log x t log' rest e l d fine =
    let f : first ((field v ++ write ws) ++ rest) ≡ got v (write ws ++ rest) = ap first (append_assoc (field v) (write ws) rest) ∙ one v (write ws ++ rest) fine.0 in
    let w = turn_fault m n q v ((field v ++ write ws) ++ rest) (write ws ++ rest) s log e.0 e.1 e.2 f e.3 in
    let a : e.0 ≡ x = let k : Some x ≡ Some e.0 = ap (λ (o : Outcome S). o.fault) e.4 in cc in
    let b : e.1 ≡ t = sym (ap (λ (o : Outcome S). o.state) e.4) in
    let c : log' ≡ e.2 = ap (λ (o : Outcome S). o.answers) e.4 in (
      subst (λ (z : Fault). FaultAt m n q ((field v ++ write ws) ++ rest) s z t) a
          (subst (λ (u : S). FaultAt m n q ((field v ++ write ws) ++ rest) s e.0 u) b w.0),
      c ∙ w.1,
    )

-- a run without fault ended at the end of the file
pub stop_none : (stop : Stop) (q : ℕ) → stopped stop q ≡ None → stop ≡ closed []
stop_none (closed []) q e = refl
stop_none stop q e = cc

pub ending_none : {S : Type 0} (m : Machine S) (stop : Stop) (n : Phase) (q : ℕ) (ws : List Value) (s : S) (log : List Ruled) (t : S) (log' : List Ruled)
    → Ending m stop n q ws s log (record { fault = None; state = t; answers = log' }) → (ws ≡ []) × (stop ≡ closed []) × (t ≡ s) × (log' ≡ log)
ending_none {S = S} m stop n q [] s log t log' e =
    (refl, stop_none stop q (sym (ap (λ (o : Outcome S). o.fault) e)), ap (λ (o : Outcome S). o.state) e, ap (λ (o : Outcome S). o.answers) e)
ending_none {S = S} m stop n q (v ∷ ws) s log t log' e =
    let k : None ≡ Some e.0 = ap (λ (o : Outcome S). o.fault) e.4 in absurd cc
