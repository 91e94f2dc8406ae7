-- The numbers of field faults.
use Rattle.std.specs.Prelude.{ℕ}
use Rattle.fields.specs.declared.field.Cause.{Cause}
use Rattle.fields.specs.declared.field.Cause.TheVariants.{Short, UnknownTag, WrongLength}

-- the number under which a cause is known outside
abbrev pub cause_number : Cause → ℕ
cause_number Short = 16
cause_number UnknownTag = 17
cause_number WrongLength = 18
