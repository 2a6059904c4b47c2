-- How the arguments of a command are read, and the command words by their length.
use Rattle.std.specs.Prelude.{ℕ, List, [], ◌∷◌, ◌++◌, Option, None, Some}
use Rattle.model.specs.Ascii.{ascii}
use Rattle.model.specs.Request.{Reading, unknown, Command, definitions, edits, settings, definition, one_name, two_names, fixed_words, level_words, resultant_words}
use Rattle.request.specs.Asked.{named}
use Rattle.request.specs.declared.command.Form.{Form}
use Rattle.request.specs.declared.command.Form.TheVariants.{Definition, OneName, TwoNames, Password, Alone, Level, Resultants}

-- [Commands] what arguments say in each form
abbrev pub read_as : Form → List (List ℕ) → Reading
read_as (Definition k) args = definition k args
read_as (OneName q) args = one_name (λ a. named q a []) args
read_as (TwoNames q) args = two_names (named q) args
read_as (Password q) args = fixed_words (ascii "SKS" ∷ []) (named q [] []) args
read_as (Alone q) args = fixed_words [] (named q [] []) args
read_as Level args = level_words args
read_as Resultants args = resultant_words args

-- [Error 4] and where there may be no form: no command is the reading that number 4 refuses
abbrev pub asked_by : Option Form → List (List ℕ) → Reading
asked_by None args = unknown
asked_by (Some form) args = read_as form args

-- [Commands] the words of three letters: all but the queries, which have four
abbrev pub three_letters : List Command
three_letters = definitions ++ (edits ++ settings)
