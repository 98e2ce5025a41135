-- The options of a subcommand, by the rows of its matches.
use Rattle.std.proofs.Common.{◌≡◌, ℕ, List, Option, Some, None, option_map, Result, Ok, Err, sym, ap, ap₂, ◌∙◌, false, IfOk}
use Rattle.std.proofs.lemmas.Option.{same_Some}
use Rattle.clap.specs.Words.{AddsSubcommand, App, Row, Text, app_of, first_of, rows_of, with_subcommand, first_value}
use Rattle.clap.proofs.WalkLemmas.{first_value-rows}
use Rattle.clap.specs.declared.builder.command.Command.{Command}
use Rattle.clap.specs.declared.builder.command.Command.TheViews.{out-Command as fields_of}
use Rattle.clap.specs.declared.parser.matches.Found.{Found}

-- the first value of an option, by the rows
pub first_of_rows : (f : Found) (id : List ℕ) → first_of id (rows_of f) ≡ first_value f id
first_of_rows f id = sym (first_value-rows f id)

-- a subcommand's name and rows, by its parts
pub both_parts : {C : Type 0} (name : C → Text) (rows : C → List Row) (o : Option C) (n : Text) (r : List Row)
    → Some n ≡ option_map name o → Some r ≡ option_map (λ (p : Text × List Row). p.1) (option_map {U = Text × List Row} (λ (c : C). (name c, rows c)) o)
    → option_map {U = Text × List Row} (λ (c : C). (name c, rows c)) o ≡ Some (n, r)
both_parts name rows None n r first second = cc
both_parts name rows (Some c) n r first second =
    ap₂ (λ (x : Text) (y : List Row). Some (x, y)) (sym (same_Some n (name c) first)) (sym (same_Some r (rows c) second))

-- a command with a subcommand more
pub subcommand_added : (old sub new : Command) (above below : App) → AddsSubcommand old sub new → (fields_of sub).has_globals ≡ false
    → app_of old ≡ above → app_of sub ≡ below → app_of new ≡ with_subcommand above below.top
subcommand_added old sub new above below adds local was is = adds.shape local ∙ ap₂ with_subcommand was (ap (λ (app : App). app.top) is)

-- a command with a subcommand more, where memory may run out
pub subcommand_added_last : {E : Type 0} (old sub : Command) (result : Result Command E) (above below : App) → IfOk result (AddsSubcommand old sub)
    → (fields_of sub).has_globals ≡ false → app_of old ≡ above → app_of sub ≡ below → IfOk result (λ new. app_of new ≡ with_subcommand above below.top)
subcommand_added_last old sub (Ok new) above below adds local was is = subcommand_added old sub new above below adds local was is
subcommand_added_last old sub (Err fault) above below adds local was is = tt
