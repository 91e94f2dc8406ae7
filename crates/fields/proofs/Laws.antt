-- Reading and writing are inverse to each other.
use Rattle.std.proofs.Common.{◌≡◌, ℕ, zero, suc, ◌+◌, ◌-◌, ◌*◌, ◌%◌, ◌<◌, ◌≤◌, Bool, true, false, cond, ltb, List, [], ◌∷◌, ◌++◌, length, get_or, take, drop, sym, refl, ap, ◌∙◌, subst, append_assoc, append-nil, div-add-mod', arith, length-append, length-drop, length-take-le, get_or-drop, drop-drop, take_at, drop_at}
use lib.Seq.{drop-append_seam}
use Rattle.std.proofs.lemmas.Bool.{ltb-false, le-ltb, eq-eqb, eqb-true, leb-true, le-leb, and_from, and_parts, cond-true, cond-false}
use Rattle.fields.specs.declared.field.Cause.{Cause}
use Rattle.fields.specs.declared.field.Cause.TheVariants.{Short, UnknownTag, WrongLength}
use Rattle.std.specs.List.{AllByRecursion}
use Rattle.fields.specs.Values.{Value, kind, band, list, stride, rule_out_field, end, bytes2, bytes8, pairs, field, write, Fine}
use Rattle.fields.specs.Fields.{two, eight, right_length}
use Rattle.fields.specs.Reading.{totals, value, First, bad, got, first, Bytes, Stop, broken, closed, Fields, is_end, onward, fields_by, fields, Open, Left, Ends, Walk}
use Rattle.fields.proofs.Bytewise.{firsts, firsts_is, parted, bytes2_two, bytes8_eight, eight_again, totals_pairs, length_pairs, pairs_totals, totals_fine}

-- what a list of bytes has whose first field passes
pub record Passes (bytes : List ℕ) : Type 0 where
  pub head : 3 ≤ length bytes
  pub tag : get_or bytes 0 0 ≤ 5
  pub right : right_length (get_or bytes 0 0) (two bytes 1) ≡ true
  pub whole : 3 + two bytes 1 ≤ length bytes

pub first_got : (bytes : List ℕ) → Passes bytes → first bytes ≡ got (value bytes) (drop (3 + two bytes 1) bytes)
first_got bytes p =
    cond-false _ _ _ (le-ltb (length bytes) 3 p.head)
    ∙ (cond-false _ _ _ (le-ltb 5 (get_or bytes 0 0) p.tag)
    ∙ (cond-true _ _ _ p.right ∙ cond-false _ _ _ (le-ltb (length bytes) (3 + two bytes 1) p.whole)))

tells : (a b c d : Bool) (v w : Value) (r s : List ℕ)
    → cond a (bad Short) (cond b (bad UnknownTag) (cond c (cond d (bad Short) (got w s)) (bad WrongLength))) ≡ got v r
    → (a ≡ false) × (b ≡ false) × (c ≡ true) × (d ≡ false) × (v ≡ w) × (r ≡ s)
tells false false true false v w r s e = (refl, refl, refl, refl, cc, cc)
tells a b c d v w r s e = cc

pub first_tells : (bytes : List ℕ) (v : Value) (rest : List ℕ) → first bytes ≡ got v rest
    → Passes bytes × (v ≡ value bytes) × (rest ≡ drop (3 + two bytes 1) bytes)
first_tells bytes v rest e =
    let t = tells (ltb (length bytes) 3) (ltb 5 (get_or bytes 0 0)) (right_length (get_or bytes 0 0) (two bytes 1)) (ltb (length bytes) (3 + two bytes 1)) v (value bytes) rest (drop (3 + two bytes 1) bytes) e in (
      record {
        head = ltb-false (length bytes) 3 t.0;
        tag = ltb-false 5 (get_or bytes 0 0) t.1;
        right = t.2;
        whole = ltb-false (length bytes) (3 + two bytes 1) t.3;
      },
      t.4,
      t.5,
    )

-- a field that is written passes
first_written : (t : ℕ) (body rest : List ℕ) → t ≤ 5 → right_length t (length body) ≡ true
    → first ((t ∷ 0 ∷ length body ∷ body) ++ rest) ≡ got (value ((t ∷ 0 ∷ length body ∷ body) ++ rest)) rest
first_written t body rest h r =
    let bytes = t ∷ 0 ∷ length body ∷ (body ++ rest) in
    let z : 0 * 256 + length body ≡ length body = omega arith in
    let p : Passes bytes =
    record {
      head = omega arith;
      tag = h;
      right = subst (λ (j : ℕ). right_length t j ≡ true) (sym z) r;
      whole = omega (arith, length-append body rest);
    } in
    first_got bytes p ∙ ap (got (value bytes)) (sym (drop-drop (0 * 256 + length body) 3 bytes) ∙ drop_at body rest (0 * 256 + length body) (sym z))

-- and is read back
pub one : (v : Value) (rest : List ℕ) → Fine v → first (field v ++ rest) ≡ got v rest
one (kind size price counts) rest fine =
    let a = div-add-mod' size 256 in
    let b = div-add-mod' price 256 in
    let c = eight_again counts in
    first_written 1 (bytes2 size ++ (bytes2 price ++ bytes8 counts)) rest (omega arith) refl ∙ cc
one (band low high) rest fine =
    let a = div-add-mod' low 256 in
    let b = div-add-mod' high 256 in
    first_written 2 (bytes2 low ++ bytes2 high) rest (omega arith) refl ∙ cc
one (list ns) rest fine =
    let n : length (pairs ns) ≡ length ns * 2 = length_pairs ns in
    let right : right_length 3 (length (pairs ns)) ≡ true =
    and_from _ _ (le-leb 2 (length (pairs ns)) (omega arith)) (and_from _ _ (le-leb (length (pairs ns)) 32 (omega arith)) (eq-eqb (length (pairs ns) % 2) 0 (omega arith))) in
    let a : take (0 * 256 + length (pairs ns)) (pairs ns ++ rest) ≡ pairs ns = take_at (pairs ns) rest (0 * 256 + length (pairs ns)) (omega arith) in
    let c = totals_pairs ns in
    first_written 3 (pairs ns) rest (omega arith) right ∙ cc
one (stride modulus r) rest fine =
    let a = div-add-mod' modulus 256 in
    let b = div-add-mod' r 256 in
    first_written 4 (bytes2 modulus ++ bytes2 r) rest (omega arith) refl ∙ cc
one (rule_out_field k count) rest fine = first_written 5 (k ∷ count ∷ []) rest (omega arith) refl
one end rest fine = first_written 0 [] rest (omega arith) refl

pub bytes_take : (n : ℕ) (xs : List ℕ) → Bytes xs → Bytes (take n xs)
bytes_take zero xs by k = omega arith
bytes_take (suc n) [] by k = omega arith
bytes_take (suc n) (x ∷ xs) by zero = by 0
bytes_take (suc n) (x ∷ xs) by (suc k) = bytes_take n xs (λ j. by (suc j)) k

pub bytes_drop : (n : ℕ) (xs : List ℕ) → Bytes xs → Bytes (drop n xs)
bytes_drop n xs by k = rw get_or-drop (by (n + k))

-- the bytes are the writing of their first field, and what stands after it
abbrev Again : List ℕ → Type 0
Again bytes = (bytes ≡ field (value bytes) ++ drop (3 + two bytes 1) bytes) × Fine (value bytes)

again_at : (bytes : List ℕ) → Bytes bytes → Passes bytes → (t n : ℕ) (v : Value) → get_or bytes 0 0 ≡ t → two bytes 1 ≡ n → n < 256
    → value bytes ≡ v → field v ≡ t ∷ 0 ∷ n ∷ firsts n 3 bytes → Fine v → Again bytes
again_at bytes by p t n v e en small ev ef fine =
    let y1 = by 1 in
    let y2 = by 2 in
    let hi : get_or bytes 1 0 ≡ 0 = omega arith in
    let lo : get_or bytes 2 0 ≡ n = omega arith in
    let past : 3 + two bytes 1 ≡ suc (suc (suc n)) = omega arith in
    let whole = parted (suc (suc (suc n))) bytes (omega (arith, p.whole)) in
    (cc, subst Fine (sym ev) fine)

again_list : (bytes : List ℕ) → Bytes bytes → Passes bytes → get_or bytes 0 0 ≡ 3 → Again bytes
again_list bytes by p e =
    let n = two bytes 1 in
    let part = take (two bytes 1) (drop 3 bytes) in
    let r = and_parts _ _ (rw e at p.right) in
    let s = and_parts _ _ r.1 in
    let low : 2 ≤ two bytes 1 = leb-true 2 (two bytes 1) r.0 in
    let high : two bytes 1 ≤ 32 = leb-true (two bytes 1) 32 s.0 in
    let even : two bytes 1 % 2 ≡ 0 = eqb-true (two bytes 1 % 2) 0 s.1 in
    let enough : two bytes 1 ≤ length (drop 3 bytes) = omega (arith, length-drop 3 bytes, p.whole) in
    let long : length part ≡ two bytes 1 = length-take-le (two bytes 1) (drop 3 bytes) enough in
    let fits = bytes_take (two bytes 1) (drop 3 bytes) (bytes_drop 3 bytes by) in
    let back : pairs (totals part) ≡ part = pairs_totals part (rw long even) fits in
    let twice : length (pairs (totals part)) ≡ length (totals part) * 2 = length_pairs (totals part) in
    let same : length (pairs (totals part)) ≡ two bytes 1 = ap length back ∙ long in
    let read = firsts_is (two bytes 1) 3 bytes (omega (arith, p.whole)) in
    again_at bytes by p 3 (two bytes 1) (list (totals part)) e refl (omega arith) (rw e) (cc) (omega arith, omega arith, totals_fine part fits)

-- two numbers of two bytes
four_read : (bytes : List ℕ) → Bytes bytes → (bytes2 (two bytes 3) ++ bytes2 (two bytes 5) ≡ firsts 4 3 bytes) × (two bytes 3 < 65536) × (two bytes 5 < 65536)
four_read bytes by =
    let a = bytes2_two (get_or bytes 3 0) (get_or bytes 4 0) (by 4) in
    let b = bytes2_two (get_or bytes 5 0) (get_or bytes 6 0) (by 6) in
    (cc, omega (arith, by 3, by 4), omega (arith, by 5, by 6))

again : (bytes : List ℕ) → Bytes bytes → Passes bytes → (t : ℕ) → get_or bytes 0 0 ≡ t → t ≤ 5 → Again bytes
again bytes by p zero e h =
    again_at bytes by p 0 0 end e (eqb-true (two bytes 1) 0 (rw e at p.right)) (omega arith) (rw e) refl tt
again bytes by p (suc zero) e h =
    let w = four_read bytes by in
    let c = bytes8_eight (get_or bytes 7 0) (get_or bytes 8 0) (get_or bytes 9 0) (get_or bytes 10 0) (get_or bytes 11 0) (get_or bytes 12 0) (get_or bytes 13 0) (get_or bytes 14 0) (by 8, by 9, by 10, by 11, by 12, by 13, by 14) in
    again_at bytes by p 1 12 (kind (two bytes 3) (two bytes 5) (eight bytes 7)) e (eqb-true (two bytes 1) 12 (rw e at p.right)) (omega arith) (rw e) (cc)
    (w.1, w.2, omega (arith, by 7, by 8, by 9, by 10, by 11, by 12, by 13, by 14))
again bytes by p (suc (suc zero)) e h =
    let w = four_read bytes by in
    again_at bytes by p 2 4 (band (two bytes 3) (two bytes 5)) e (eqb-true (two bytes 1) 4 (rw e at p.right)) (omega arith) (rw e) (ap (λ t. 2 ∷ 0 ∷ 4 ∷ t) w.0) (w.1, w.2)
again bytes by p (suc (suc (suc zero))) e h = again_list bytes by p e
again bytes by p (suc (suc (suc (suc zero)))) e h =
    let w = four_read bytes by in
    again_at bytes by p 4 4 (stride (two bytes 3) (two bytes 5)) e (eqb-true (two bytes 1) 4 (rw e at p.right)) (omega arith) (rw e) (ap (λ t. 4 ∷ 0 ∷ 4 ∷ t) w.0) (w.1, w.2)
again bytes by p (suc (suc (suc (suc (suc zero))))) e h =
    again_at bytes by p 5 2 (rule_out_field (get_or bytes 3 0) (get_or bytes 4 0)) e (eqb-true (two bytes 1) 2 (rw e at p.right)) (omega arith) (rw e) refl (by 3, by 4)
again bytes by p (suc (suc (suc (suc (suc (suc t)))))) e h = absurd (omega arith)

pub back : (bytes : List ℕ) (v : Value) (rest : List ℕ) → Bytes bytes → first bytes ≡ got v rest → (bytes ≡ field v ++ rest) × Fine v
back bytes v rest by e =
    let t = first_tells bytes v rest e in
    subst (λ (w : Value). (bytes ≡ field w ++ rest) × Fine w) (sym t.1)
    (subst (λ (r : List ℕ). (bytes ≡ field (value bytes) ++ r) × Fine (value bytes)) (sym t.2)
    (again bytes by t.0 (get_or bytes 0 0) refl t.0.tag))

-- a field takes three bytes and more
pub shorter : (bytes : List ℕ) (v : Value) (rest : List ℕ) → first bytes ≡ got v rest → length rest + 3 ≤ length bytes
shorter bytes v rest e =
    let t = first_tells bytes v rest e in
    let l : length rest ≡ length bytes - (3 + two bytes 1) = ap length t.2 ∙ length-drop (3 + two bytes 1) bytes in
    omega (arith, t.0.whole)

turned : (f g : List ℕ → Fields) (x : First) → ((v : Value) (rest : List ℕ) → x ≡ got v rest → f rest ≡ g rest) → onward f x ≡ onward g x
turned f g (bad c) h = refl
turned f g (got v rest) h =
    ap (λ (a : Fields). cond (is_end v) (record { values = v ∷ []; stop = closed rest }) (record { values = v ∷ a.values; stop = a.stop })) (h v rest refl)

-- more turns than bytes change nothing
pub enough : (n m : ℕ) (bytes : List ℕ) → length bytes ≤ n → length bytes ≤ m → fields_by n bytes ≡ fields_by m bytes
enough (suc n) (suc m) bytes h k =
    turned (fields_by n) (fields_by m) (first bytes)
    (λ v rest e. let s = shorter bytes v rest e in enough n m rest (omega arith) (omega arith))
enough zero zero [] h k = refl
enough n m [] h k = refl
enough n m (x ∷ xs) h k = absurd (omega arith)

pub fields_onward : (bytes : List ℕ) → fields bytes ≡ onward fields (first bytes)
fields_onward [] = refl
fields_onward (x ∷ xs) =
    turned (fields_by (length xs)) fields (first (x ∷ xs))
    (λ v rest e. let s : length rest + 3 ≤ suc (length xs) = shorter (x ∷ xs) v rest e in enough (length xs) (length rest) rest (omega arith) (omega arith))

pub fields_more : (bytes : List ℕ) (v : Value) (rest : List ℕ) → first bytes ≡ got v rest → is_end v ≡ false
    → fields bytes ≡ record { values = v ∷ (fields rest).values; stop = (fields rest).stop }
fields_more bytes v rest e o = fields_onward bytes ∙ (ap (onward fields) e ∙ cond-false (is_end v) _ _ o)

pub fields_end : (bytes : List ℕ) (v : Value) (rest : List ℕ) → first bytes ≡ got v rest → is_end v ≡ true
    → fields bytes ≡ record { values = v ∷ []; stop = closed rest }
fields_end bytes v rest e o = fields_onward bytes ∙ (ap (onward fields) e ∙ cond-true (is_end v) _ _ o)

pub fields_bad : (bytes : List ℕ) (c : Cause) → first bytes ≡ bad c → fields bytes ≡ record { values = []; stop = broken c }
fields_bad bytes c e = fields_onward bytes ∙ ap (onward fields) e

reads_past : (vs ws : List Value) (tail : List ℕ) (s : Stop) → fields tail ≡ record { values = ws; stop = s } → AllByRecursion Fine vs → Open vs
    → fields (write vs ++ tail) ≡ record { values = vs ++ ws; stop = s }
reads_past [] ws tail s e fine free = e
reads_past (v ∷ vs) ws tail s e fine free =
    let f : first ((field v ++ write vs) ++ tail) ≡ got v (write vs ++ tail) =
    ap first (append_assoc (field v) (write vs) tail) ∙ one v (write vs ++ tail) fine.0 in
    fields_more ((field v ++ write vs) ++ tail) v (write vs ++ tail) f free.0
    ∙ ap (λ (a : Fields). record { values = v ∷ a.values; stop = a.stop }) (reads_past vs ws tail s e fine.1 free.1)

pub reads : (vs : List Value) (rest : List ℕ) → AllByRecursion Fine vs → Open vs
    → fields (write vs ++ (field end ++ rest)) ≡ record { values = vs ++ (end ∷ []); stop = closed rest }
reads vs rest fine free =
    reads_past vs (end ∷ []) (field end ++ rest) (closed rest) (fields_end (field end ++ rest) end rest (one end rest tt) refl) fine free

pub breaks : (vs : List Value) (rest : List ℕ) (c : Cause) → AllByRecursion Fine vs → Open vs → first rest ≡ bad c
    → fields (write vs ++ rest) ≡ record { values = vs; stop = broken c }
breaks vs rest c fine free e =
    reads_past vs [] rest (broken c) (fields_bad rest c e) fine free ∙ simp append-nil

abbrev Wrote : List ℕ → Fields → Type 0
Wrote bytes f = (rest : List ℕ) × (bytes ≡ write f.values ++ rest) × Left f.stop rest × AllByRecursion Fine f.values × Ends f.stop f.values

pub end_is : (v : Value) → is_end v ≡ true → v ≡ end
end_is end e = refl
end_is v e = cc

ends_more : (v : Value) → is_end v ≡ false → (s : Stop) (vs : List Value) → Ends s vs → Ends s (v ∷ vs)
ends_more v o (broken c) vs h = (o, h)
ends_more v o (closed r) vs h = (v ∷ h.0, ap (λ (t : List Value). v ∷ t) h.1, (o, h.2))

wrote_got : (bytes : List ℕ) (v : Value) (rest : List ℕ) (b : Bool) → Bytes bytes → first bytes ≡ got v rest → is_end v ≡ b → Wrote rest (fields rest) → Wrote bytes (fields bytes)
wrote_got bytes v rest true by e o w =
    let t = back bytes v rest by e in
    subst (Wrote bytes) (sym (fields_end bytes v rest e o)) (rest, t.0 ∙ ap (λ (x : List ℕ). x ++ rest) (sym (append-nil (field v))), refl, (t.1, tt), ([], ap (λ (x : Value). x ∷ []) (end_is v o), tt))
wrote_got bytes v rest false by e o w =
    let t = back bytes v rest by e in
    subst (Wrote bytes) (sym (fields_more bytes v rest e o)) (
      w.0,
      t.0 ∙ (ap (λ (r : List ℕ). field v ++ r) w.1 ∙ sym (append_assoc (field v) (write (fields rest).values) w.0)),
      w.2,
      (t.1, w.3),
      ends_more v o (fields rest).stop (fields rest).values w.4,
    )

wrote_at : (bytes : List ℕ) (n : ℕ) → Bytes bytes → ((r : List ℕ) → length r ≤ n → Bytes r → Wrote r (fields r)) → length bytes ≤ suc n
    → (x : First) → first bytes ≡ x → Wrote bytes (fields bytes)
wrote_at bytes n by next h (bad c) e = subst (Wrote bytes) (sym (fields_bad bytes c e)) (bytes, refl, e, tt, tt)
wrote_at bytes n by next h (got v rest) e =
    let s = shorter bytes v rest e in
    let t = first_tells bytes v rest e in
    wrote_got bytes v rest (is_end v) by e refl
    (next rest (omega arith) (subst Bytes (sym t.2) (bytes_drop (3 + two bytes 1) bytes by)))

wrote_by : (n : ℕ) (bytes : List ℕ) → length bytes ≤ n → Bytes bytes → Wrote bytes (fields bytes)
wrote_by zero [] h by = ([], refl, refl, tt, tt)
wrote_by zero (x ∷ xs) h by = absurd (omega arith)
wrote_by (suc n) bytes h by = wrote_at bytes n by (wrote_by n) h (first bytes) refl

pub wrote : (bytes : List ℕ) → Bytes bytes → Wrote bytes (fields bytes)
wrote bytes by = wrote_by (length bytes) bytes (omega arith) by

pub walks : (vs : List Value) (front rest : List ℕ) → AllByRecursion Fine vs → Walk (front ++ (write vs ++ rest)) (length front) vs
walks [] front rest fine = tt
walks (v ∷ vs) front rest fine =
    let tail = write vs ++ rest in
    let inner : (field v ++ write vs) ++ rest ≡ field v ++ (write vs ++ rest) = append_assoc (field v) (write vs) rest in
    let outer : (front ++ field v) ++ (write vs ++ rest) ≡ front ++ (field v ++ (write vs ++ rest)) = append_assoc front (field v) (write vs ++ rest) in
    let long : length (front ++ field v) ≡ length front + length (field v) = length-append front (field v) in
    subst (λ (b : List ℕ). (first (drop (length front) (front ++ b)) ≡ got v (drop (length front + length (field v)) (front ++ b))) × Walk (front ++ b) (length front + length (field v)) vs) (sym inner) (
      ap first (drop-append_seam front (field v ++ (write vs ++ rest))) ∙ (one v (write vs ++ rest) fine.0
          ∙ ap (got v) (sym (subst (λ (n : ℕ). drop n (front ++ (field v ++ (write vs ++ rest))) ≡ write vs ++ rest) long
          (subst (λ (b : List ℕ). drop (length (front ++ field v)) b ≡ write vs ++ rest) outer (drop-append_seam (front ++ field v) (write vs ++ rest)))))),
      subst (λ (n : ℕ). Walk (front ++ (field v ++ (write vs ++ rest))) n vs) long
          (subst (λ (b : List ℕ). Walk b (length (front ++ field v)) vs) outer (walks vs (front ++ field v) rest fine.1)),
    )
