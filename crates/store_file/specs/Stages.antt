-- How far the making of a store's file has come, by what the calls answered, and what is left of it.
use Rattle.std.specs.Prelude.{◌&&◌, ◌==◌, nat_lt, nat_le, Bool, true, false, cond}
use Rattle.store_file.specs.declared.folder.FileFacts.{FileFacts}
use Rattle.store_file.specs.declared.folder.Found.{Found}
use Rattle.store_file.specs.declared.folder.Found.TheVariants.{Nothing, File, Other}
use Rattle.store_file.specs.declared.folder.Name.{Name}
use Rattle.store_file.specs.declared.folder.Name.TheVariants.{Store, Log}
use Rattle.store_file.specs.declared.folder.Stage.{Stage}
use Rattle.store_file.specs.declared.folder.Stage.TheVariants.{Begun, There, Free, Wanted, Opened, Locked, Alone, Private}
use Rattle.store_file.specs.declared.folder.Stage.TheVariants.{Cut, Written, Synced, Emptied, Vacant, Named, Removed, Left}
use Rattle.store_file.specs.declared.page.TheConstants.{PAGE_BYTES}

-- a file that has bytes
abbrev pub has_bytes : Found → Bool
has_bytes (File facts) = nat_lt 0 facts.bytes
has_bytes found = false

-- no file, or one of no bytes
abbrev pub has_nothing : Found → Bool
has_nothing Nothing = true
has_nothing (File facts) = facts.bytes == 0
has_nothing Other = false

-- nothing that a store in its place could take away: no file, or one of no bytes that has no other name
abbrev pub is_vacant : Found → Bool
is_vacant Nothing = true
is_vacant (File facts) = (facts.bytes == 0) && (facts.names == 1)
is_vacant Other = false

-- they are facts of one file
abbrev pub is_same_file : FileFacts → FileFacts → Bool
is_same_file a b = (a.device == b.device) && (a.node == b.node)

-- the held file is the one at the name, has no other name, and has no more bytes than a making leaves
abbrev pub is_left : Found → Found → Bool
is_left (File held) (File named) = is_same_file held named && (held.names == 1) && nat_le held.bytes PAGE_BYTES
is_left held named = false

-- the held file is the one at the name, and a store in its place would take nothing away
abbrev pub is_replaceable : Found → Found → Bool
is_replaceable (File held) (File named) = is_same_file held named && is_vacant (File held)
is_replaceable held named = false

-- how far it has come once this was found at a name
abbrev pub looked : Name → Stage → Found → Stage
looked Store Begun found = cond (has_bytes found) There (cond (is_vacant found) Free Begun)
looked Log Free found = cond (has_nothing found) Wanted Free
looked Store Synced Nothing = Vacant
looked Store Synced (File facts) = cond (is_vacant (File facts)) Emptied Synced
looked name stage found = stage

-- the file with the other name is this making's
abbrev pub is_ours : Stage → Bool
is_ours Alone = true
is_ours Private = true
is_ours Cut = true
is_ours Written = true
is_ours Synced = true
is_ours Emptied = true
is_ours Vacant = true
is_ours stage = false

-- no file is this making's
abbrev pub is_unheld : Stage → Bool
is_unheld Begun = true
is_unheld Free = true
is_unheld Wanted = true
is_unheld Opened = true
is_unheld Locked = true
is_unheld stage = false

-- What is left of a making that failed. At the store's name lies what lay there before, and no file was opened, or it may
-- be another's, or it is removed, or couldn't be. Or the whole page lies at the store's name, as long as no power is cut.
abbrev pub is_given_up : Stage → Bool
is_given_up Removed = true
is_given_up Left = true
is_given_up Named = true
is_given_up stage = is_unheld stage
