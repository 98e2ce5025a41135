-- What a seat can ask for: the numbers of an order are within their ranges, and the digests of keys have 32 bytes.
use Rattle.std.specs.Prelude.{◌≡◌, length}
use Rattle.std.specs.List.{AllByRecursion}
use Rattle.fuse_plan.specs.declared.wish.Want.{Want}
use Rattle.fuse_plan.specs.declared.wish.Want.TheVariants.{Key}
use Rattle.office_commands.specs.NewOrders.{IsNewOrder}
use Rattle.office_commands.specs.declared.command.Action.{Action}
use Rattle.office_commands.specs.declared.command.Action.TheVariants.{Plan}
use Rattle.office_commands.specs.declared.command.Change.{Change}
use Rattle.office_commands.specs.declared.command.Change.TheVariants.{MakeOrder, Act}
use Rattle.office_commands.specs.declared.command.Command.{Command}
use Rattle.office_commands.specs.declared.command.Command.TheVariants.{Change as Changing, Show}
use Rattle.office_commands.specs.declared.command.Request.{Request}

-- a key that is wished for is named by a digest of 32 bytes
abbrev pub HasDigest : Want → Type 0
HasDigest (Key digest) = length digest ≡ 32
HasDigest _ = Unit {0}

-- an action whose wishes name their keys so
abbrev pub IsAction : Action → Type 0
IsAction (Plan wishes) = AllByRecursion (λ w. HasDigest w.want) wishes
IsAction _ = Unit {0}

-- a change: the numbers of an order are within their ranges, and an action's wishes name their keys so
abbrev pub IsChange : Change → Type 0
IsChange (MakeOrder o) = IsNewOrder o
IsChange (Act chip action) = IsAction action
IsChange _ = Unit {0}

-- a command: a change that is one, or anything that is to be shown
abbrev pub IsCommand : Command → Type 0
IsCommand (Changing c) = IsChange c
IsCommand (Show asked) = Unit {0}

-- what a seat can ask for
abbrev pub IsAsked : Request → Type 0
IsAsked r = IsCommand r.command
