-- Document 01's number of each refusal, and what an answer of the code says, whatever it holds: the number, and the values where that is 0.
use Rattle.std.specs.Prelude.{Option, Some, None, Result, Ok, Err}
use Rattle.model.specs.Base.{ℕ}
use Rattle.model.specs.Told.{Told, tells, refuses}
use Rattle.facts.specs.declared.refusals.Refusal.{Refusal}
use Rattle.facts.specs.declared.refusals.Refusal.TheVariants.{IllFormed, Short, Unreadable, Unknown, Malformed, Beyond, Absent, Reserved, Locked, OtherType, InUse, Ring, Full, NoImage, Aslant, Needed}

-- [Errors 1 to 14; 02 §1, §9]
abbrev pub number_of : Refusal → ℕ
number_of IllFormed = 1
number_of Short = 2
number_of Unreadable = 3
number_of Unknown = 4
number_of Malformed = 5
number_of Beyond = 6
number_of Absent = 7
number_of Reserved = 8
number_of Locked = 9
number_of OtherType = 10
number_of InUse = 11
number_of Ring = 12
number_of Full = 13
number_of NoImage = 14
number_of Aslant = 15
number_of Needed = 20

-- [Errors] the number of an outcome: 0 where nothing is refused
abbrev pub outcome : {A : Type 0} → Result A Refusal → ℕ
outcome (Ok a) = 0
outcome (Err why) = number_of why

-- the number, and the value that f makes of the answer's where that is 0
abbrev pub told : {A B : Type 0} → (A → B) → Result A Refusal → Told B
told f (Ok a) = tells (f a)
told f (Err why) = refuses (number_of why)

-- the same of an answer that can be refused with one number alone
abbrev pub told_or : {A B : Type 0} → ℕ → (A → B) → Option A → Told B
told_or n f None = refuses n
told_or n f (Some a) = tells (f a)
