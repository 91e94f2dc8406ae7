-- What a fault says: its layer, place and number, and its line.
use Rattle.std.specs.Prelude.{ℕ, List, ◌++◌, codes, decimal}
use Rattle.model.specs.Refusals.{number_of}
use Rattle.fields.specs.Causes.{cause_number}
use Rattle.faults.specs.declared.fault.FileFault.{FileFault}
use Rattle.faults.specs.declared.fault.FileFault.TheVariants.{Field, Plan, OutOfSequence, TooLong}
use Rattle.faults.specs.declared.fault.Layer.{Layer}
use Rattle.faults.specs.declared.fault.Layer.TheVariants.{Field as inField, File as inFile, Plan as inPlan}

-- the layer, the place and the number of a fault
pub record Fault : Type 0 where
  pub layer : Layer
  pub place : ℕ
  pub number : ℕ

-- a field that cannot be read
abbrev pub fault_in_field : ℕ → ℕ → Fault
fault_in_field place number = record { layer = inField; place = place; number = number }

-- a refused operation
abbrev pub fault_in_plan : ℕ → ℕ → Fault
fault_in_plan place number = record { layer = inPlan; place = place; number = number }

-- a field out of sequence, or a byte after the end
abbrev pub out_of_sequence : ℕ → Fault
out_of_sequence place = record { layer = inFile; place = place; number = 19 }

-- a file with too many bytes
abbrev pub too_long : Fault
too_long = record { layer = inFile; place = 16384; number = 20 }

-- what a fault says
abbrev pub told : FileFault → Fault
told (Field f) = fault_in_field f.place (cause_number f.cause)
told (Plan f) = fault_in_plan f.place (number_of f.cause)
told (OutOfSequence place) = out_of_sequence place
told TooLong = too_long

-- its layer
abbrev pub layer_of : FileFault → Layer
layer_of f = (told f).layer

-- its place
abbrev pub place_of : FileFault → ℕ
place_of f = (told f).place

-- its number
abbrev pub fault_number : FileFault → ℕ
fault_number f = (told f).number

-- the word for a layer
abbrev pub layer_word : Layer → List ℕ
layer_word inField = codes "field"
layer_word inFile = codes "file"
layer_word inPlan = codes "plan"

-- the bytes of its line
abbrev pub fault_line : FileFault → List ℕ
fault_line f = codes "fault " ++ (layer_word (layer_of f) ++ (codes " " ++ (decimal (place_of f) ++ (codes " " ++ decimal (fault_number f)))))
