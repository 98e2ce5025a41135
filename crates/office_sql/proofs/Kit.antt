-- The words of the kit that are used here and above, passed on from one place. Declares nothing.
pub use Rattle.sqlite.proofs.Callers.{begins_shown, command_of, EndsIn, given_begin, IsPlain, one_permutation, one_step, reads_as, runs_as, statement_of}
pub use Rattle.sqlite.proofs.Callers.{unchanged_then}
pub use Rattle.sqlite.proofs.StateLemmas.{clean_if_open, survives_then, survives_weaker}
pub use Rattle.sqlite.proofs.Theorems.{opens_again}
pub use Rattle.sqlite.specs.Cast.{cast, cast_row}
pub use Rattle.sqlite.specs.Change.{created, KeepsRows, next_tree, without_table}
pub use Rattle.sqlite.specs.Collation.{Collation}
pub use Rattle.sqlite.specs.Collation.TheVariants.{Binary}
pub use Rattle.sqlite.specs.Command.{Command}
pub use Rattle.sqlite.specs.Command.TheVariants.{CreateTable, DropTable, Insert, Select, Update}
pub use Rattle.sqlite.specs.Does.{AtPlace, Does, Drops, is_acted_on, lacks_sequence, OnRows, Tally, UncountsIn}
pub use Rattle.sqlite.specs.Edit.{edit_of, edited, numbered}
pub use Rattle.sqlite.specs.Effect.{Answers, Database, IsDatabase, value_rows}
pub use Rattle.sqlite.specs.Files.{AreFoundIn, file_state, HoldsDatabase, image_of, IsEmpty, over_files}
pub use Rattle.sqlite.specs.Given.{HasBegun, HasGiven, Returns}
pub use Rattle.sqlite.specs.Held.{Held, state}
pub use Rattle.sqlite.specs.Kind.{Kind}
pub use Rattle.sqlite.specs.Kind.TheVariants.{Integer}
pub use Rattle.sqlite.specs.Listing.{if_select, is_select, IsSourceOf, reads_listing}
pub use Rattle.sqlite.specs.Ops.{from_truth, is_null, is_true}
pub use Rattle.sqlite.specs.Order.{bytes, column, Row}
pub use Rattle.sqlite.specs.Program.{overlay}
pub use Rattle.sqlite.specs.Query.{end, inner, IsAnswer, Join, key_cmp, left, matches, Output, output, output_cmp, page}
pub use Rattle.sqlite.specs.Recovery.{Image}
pub use Rattle.sqlite.specs.Rowids.TheVariants.{Above, Chosen, Given}
pub use Rattle.sqlite.specs.Rows.{count_of, Counts, CountsIn, Edited, Gives, higher, last_id, rowids_for, sequence, Task, Written}
pub use Rattle.sqlite.specs.Schema.{Schema}
pub use Rattle.sqlite.specs.Source.TheVariants.{Values}
pub use Rattle.sqlite.specs.Start.{FindsIn}
pub use Rattle.sqlite.specs.State.{Executes, ExecutesInside, FailsToShow, HasCleanDisk, IsLive, IsRolledBack, IsTooLate, IsUnchanged, KeepsCommit, mode_of}
pub use Rattle.sqlite.specs.State.{Opens, ShowsRows, State, Survives, Writes}
pub use Rattle.sqlite.specs.Table.{Table}
pub use Rattle.sqlite.specs.Term.{col, Env, eval_all, holds, lit, op2, Term}
pub use Rattle.sqlite.specs.Tree.{has_rowid, IsAscending, IsTable, put_row, rowid, Trees, without_rowid}
pub use Rattle.sqlite.specs.Values.{bound, bound_value, or_null}
pub use Rattle.sqlite.specs.View.{is_int, IsClean, IsOrdered, IsShaped}
pub use Rattle.sqlite.specs.WalFiles.{image_at}
pub use Rattle.sqlite_catalog.proofs.LayoutLemmas.{named_tree, table_shape}
pub use Rattle.sqlite_catalog.specs.Listing.{IsSound}
pub use Rattle.sqlite_exec.proofs.PartitionLemmas.{ascending_from_sorted, IsSorted-from_map, sorted_from_ascending}
pub use Rattle.sqlite_keyed.proofs.ListLemmas.{all_unmap, along_permutation, ascending_from_map, ascending_weaker, slice_get-filter}
pub use Rattle.sqlite_keyed.proofs.SortLemmas.{IsPermutation-sort_by, sorted_is-sort_by, sorted_unique}
pub use Rattle.sqlite_keyed.specs.Lists.{insert_sorted, sort_by}
pub use Rattle.sqlite_resolve.specs.Compile.{small, with_command}
pub use Rattle.sqlite_resolve.specs.Lowering.{and_then, Checked}
pub use Rattle.sqlite_rules.proofs.ActionLemmas.{no_works}
pub use Rattle.sqlite_rules.proofs.ListLemmas.{all_from, all_has, has_filtered, some_from}
pub use Rattle.sqlite_rules.proofs.TableLemmas.{int_is}
pub use Rattle.sqlite_rules.specs.Action.{deed_for, pairs, work_by, works}
pub use Rattle.sqlite_rules.specs.Calls.{ids_of}
pub use Rattle.sqlite_rules.specs.Edit.{id_in, next_rowid, put_all, taken_by}
pub use Rattle.sqlite_rules.specs.Lists.{Has}
pub use Rattle.sqlite_schema.specs.Names.{is_key}
pub use Rattle.sqlite_schema.specs.Rules.{agree, are_present, are_typed, clashes, differ, equal, has_affinity, has_null, is_held, is_of, parent_key, passes}
pub use Rattle.sqlite_schema.specs.Rules.{suits}
pub use Rattle.sqlite_sql.proofs.QueryLemmas.{key_cmp_total}
pub use Rattle.sqlite_sql.specs.Query.{or_nulls}
pub use Rattle.sqlite_trees.proofs.Doubt.{no_doubt}
pub use Rattle.sqlite_trees.proofs.ListLemmas.{all-append, all-filter, all-map, all-permutation, all_both, all_of, ascending-map, filter-filter, filter-map}
pub use Rattle.sqlite_trees.proofs.ListLemmas.{filter_all, filter_none, filter_same, IsPermutation-same}
pub use Rattle.sqlite_trees.proofs.TreeLemmas.{all-put_row, IsTable-put_row, later_rowids}
pub use Rattle.sqlite_trees.specs.Objects.{catalog_tree, IsListed, version_tree}
pub use Rattle.sqlite_trees.specs.Props.{IsOrdered-prop}
pub use Rattle.sqlite_value.proofs.KeyLemmas.{first_key-plain}
pub use Rattle.sqlite_value.proofs.OrderLemmas.{then-Equal, value_cmp-apart, value_cmp-Blob, value_cmp-Int, value_cmp-Text, value_cmp_total}
pub use Rattle.sqlite_value.specs.Keys.{ascending, plain}
pub use Rattle.sqlite.specs.declared.error.Error.{Error}
pub use Rattle.sqlite.specs.declared.error.Error.TheVariants.{SqliteFailure}
pub use Rattle.sqlite.specs.declared.error.ErrorCode.TheVariants.{TransactionState}
pub use Rattle.sqlite.specs.declared.run.Mode.{Mode}
pub use Rattle.sqlite.specs.declared.types.Value.{Value}
pub use Rattle.sqlite.specs.declared.types.Value.TheVariants.{Int, Null, Real}
pub use Rattle.sqlite_resolve.specs.declared.compiled.Compiled.{Compiled}
pub use Rattle.sqlite_resolve.specs.declared.error.CompileError.{CompileError}
pub use Rattle.sqlite_resolve.specs.declared.error.CompileError.TheVariants.{NoSuchTable}
pub use Rattle.sqlite_schema.specs.declared.command.Returning.{Returning}
pub use Rattle.sqlite_schema.specs.declared.program.Program.{Program}
pub use Rattle.sqlite_schema.specs.declared.schema.Column.{Column}
pub use Rattle.sqlite_schema.specs.declared.schema.Constraint.TheVariants.{Datatype, ForeignKey, NotNull, Unique}
pub use Rattle.sqlite_schema.specs.declared.schema.Index.{Index}
pub use Rattle.sqlite_schema.specs.declared.schema.Keys.TheVariants.{Enforced}
pub use Rattle.sqlite_schema.specs.declared.schema.Reference.{Reference}
pub use Rattle.sqlite_sql.specs.declared.ops.BinaryOp.TheVariants.{Compare, Is}
pub use Rattle.sqlite_sql.specs.declared.ops.CompareOp.TheVariants.{Eq, Ge, Gt, Lt, Ne}
pub use Rattle.sqlite_syntax.specs.declared.statement.Parsed.{Parsed}
pub use Rattle.sqlite_trees.specs.declared.store.Shape.{Shape}
pub use Rattle.sqlite_value.specs.declared.keys.Key.{Key}
