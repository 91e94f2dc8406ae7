-- Reading the field that begins a list of bytes, and all fields up to the end field or the first fault.
use Rattle.std.specs.Prelude.{◌≡◌, ℕ, zero, suc, ◌+◌, ◌*◌, ◌<◌, Bool, true, false, cond, List, [], ◌∷◌, ◌++◌, length, take, drop, Ok, Err, Result, ◌==◌, nat_lt, slice_index}
use Rattle.fields.specs.declared.field.Cause.{Cause}
use Rattle.fields.specs.declared.field.Cause.TheVariants.{Short, UnknownTag, WrongLength}
use Rattle.fields.specs.declared.placed.Placed.{Placed}
use Rattle.fields.specs.declared.field.Field.{Field}
use Rattle.fields.specs.declared.field.Field.TheVariants.{Kind, Band, List as Totals, Stride, RuleOut, End}
use Rattle.std.specs.List.{AllByRecursion}
use Rattle.fields.specs.Values.{Value, kind, band, list, stride, rule_out_field, end, field, write, Fine}
use Rattle.fields.specs.Fields.{two, eight, right_length}

-- the totals in some bytes, two bytes each
abbrev pub totals : List ℕ → List ℕ
totals [] = []
totals (a ∷ []) = []
totals (a ∷ b ∷ rest) = (a * 256 + b) ∷ totals rest

-- what a field of the program says; a list says the totals in its part of the file
abbrev pub said : Field → Value
said (Kind size price counts) = kind size price counts
said (Band low high) = band low high
said (Totals part) = list (totals part.now)
said (Stride modulus remainder) = stride modulus remainder
said (RuleOut k count) = rule_out_field k count
said End = end

-- what the first field of `rest` says, once it has passed
abbrev pub value : List ℕ → Value
value rest =
    cond (slice_index rest 0 == 0) end
    (cond (slice_index rest 0 == 1) (kind (two rest 3) (two rest 5) (eight rest 7))
    (cond (slice_index rest 0 == 2) (band (two rest 3) (two rest 5))
    (cond (slice_index rest 0 == 3) (list (totals (take (two rest 1) (drop 3 rest))))
    (cond (slice_index rest 0 == 4) (stride (two rest 3) (two rest 5)) (rule_out_field (slice_index rest 3) (slice_index rest 4))))))

-- the first field: its fault, or its value and the bytes after it
pub data First : Type 0 where
  bad : Cause → First
  got : Value → List ℕ → First

-- the tests, in their order; a field that passes them all is read
abbrev pub first : List ℕ → First
first rest =
    cond (nat_lt (length rest) 3) (bad Short)
    (cond (nat_lt 5 (slice_index rest 0)) (bad UnknownTag)
    (cond (right_length (slice_index rest 0) (two rest 1))
    (cond (nat_lt (length rest) (3 + two rest 1)) (bad Short) (got (value rest) (drop (3 + two rest 1) rest)))
    (bad WrongLength)))

-- each number is a byte
abbrev pub Bytes : List ℕ → Type 0
Bytes bs = (k : ℕ) → slice_index bs k < 256

-- one call of the cursor at p: a field leaves the place at the bytes after it, and was written at p; a fault leaves the place
abbrev pub Next : List ℕ → ℕ → Result Field (Placed Cause) → ℕ → Type 0
Next file p (Ok f) after = (first (drop p file) ≡ got (said f) (drop after file)) × (after ≡ p + length (field (said f)))
    × (drop p file ≡ field (said f) ++ drop after file) × Fine (said f)
Next file p (Err e) after = (first (drop p file) ≡ bad e.cause) × (e.place ≡ p) × (after ≡ p)

-- how the fields of a file stop: at a fault, or past an end field, with the bytes left there
pub data Stop : Type 0 where
  broken : Cause → Stop
  closed : List ℕ → Stop

-- the fields of some bytes, and how they stop
pub record Fields : Type 0 where
  pub values : List Value
  pub stop : Stop

-- the field is the end
abbrev pub is_end : Value → Bool
is_end (kind size price counts) = false
is_end (band low high) = false
is_end (list ns) = false
is_end (stride modulus rest) = false
is_end (rule_out_field k count) = false
is_end end = true

-- the first field and then the others, `again` of the bytes after it
abbrev pub onward : (List ℕ → Fields) → First → Fields
onward again (bad c) = record { values = []; stop = broken c }
onward again (got v rest) =
    cond (is_end v) (record { values = v ∷ []; stop = closed rest })
    (record { values = v ∷ (again rest).values; stop = (again rest).stop })

-- the fields in as many turns as a number says
abbrev pub fields_by : ℕ → List ℕ → Fields
fields_by zero rest = record { values = []; stop = broken Short }
fields_by (suc n) rest = onward (fields_by n) (first rest)

-- the fields of a list of bytes, the end field among them; each takes three bytes, so as many turns as bytes are enough
abbrev pub fields : List ℕ → Fields
fields bytes = fields_by (length bytes) bytes

-- none of the values is the end
abbrev pub Open : List Value → Type 0
Open vs = AllByRecursion (λ v. is_end v ≡ false) vs

-- what stands where the fields stop: a field with that fault, or the bytes past the end field
abbrev pub Left : Stop → List ℕ → Type 0
Left (broken c) rest = first rest ≡ bad c
Left (closed r) rest = rest ≡ r

-- the end field is the last that is read, or is not read
abbrev pub Ends : Stop → List Value → Type 0
Ends (broken c) vs = Open vs
Ends (closed r) vs = (us : List Value) × (vs ≡ us ++ (end ∷ [])) × Open us

-- the values are read one after the other from p on, each at its place
abbrev pub Walk : List ℕ → ℕ → List Value → Type 0
Walk file p [] = Unit {0}
Walk file p (v ∷ vs) = (first (drop p file) ≡ got v (drop (p + length (field v)) file)) × Walk file (p + length (field v)) vs

-- the laws between reading and writing
pub record Inverse : Type 0 where
  -- a field that is written is read back, and what stands after it is left
  pub one : (v : Value) (rest : List ℕ) → Fine v → first (field v ++ rest) ≡ got v rest
  -- what is read without fault was written
  pub back : (bytes : List ℕ) (v : Value) (rest : List ℕ) → Bytes bytes → first bytes ≡ got v rest → (bytes ≡ field v ++ rest) × Fine v
  -- the writing of any fields, with an end after them and whatever bytes follow, reads as exactly those fields
  pub reads : (vs : List Value) (rest : List ℕ) → AllByRecursion Fine vs → Open vs
      → fields (write vs ++ (field end ++ rest)) ≡ record { values = vs ++ (end ∷ []); stop = closed rest }
  -- and with a fault after them, as those fields up to the fault
  pub breaks : (vs : List Value) (rest : List ℕ) (c : Cause) → AllByRecursion Fine vs → Open vs → first rest ≡ bad c
      → fields (write vs ++ rest) ≡ record { values = vs; stop = broken c }
  -- whatever the bytes are, those before the stop are the writing of exactly the fields read
  pub wrote : (bytes : List ℕ) → Bytes bytes
      → (rest : List ℕ) × (bytes ≡ write (fields bytes).values ++ rest) × Left (fields bytes).stop rest × AllByRecursion Fine (fields bytes).values
      × Ends (fields bytes).stop (fields bytes).values
  -- wherever fields are written in a file, reading from there on gives them, each at its own place
  pub walks : (vs : List Value) (front rest : List ℕ) → AllByRecursion Fine vs → Walk (front ++ (write vs ++ rest)) (length front) vs
