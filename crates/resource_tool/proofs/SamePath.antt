-- A target and an overlay at one path.
use Rattle.std.proofs.Common.{◌≡◌, ℕ, List, Option, Some, None, IfSome, Result, Ok, Err, refl}
use Rattle.contract_words.specs.Faults.{◌>>=◌}
use Rattle.command_base.specs.apk_member.declared.fault.ApkFault.{ApkFault}
use Rattle.command_base.specs.apk_member.TableFile.{table_in_file}
use Rattle.command_base.specs.declared.fault.ToolFault.TheVariants.{LayerApk}
use Rattle.command_base.specs.Inputs.{Places, layer_table_of, or_stop, stop_at, table_at, table_place, table_within}
use Rattle.command_base.specs.Stop.{StopOf, file, tool}
use Rattle.resource_tool.specs.MapOutput.{map_files}

-- what a file has is its table, whichever layer a fault would name
same_table : (one other : ℕ) (found : Result (List ℕ) ApkFault) (table : List ℕ) → or_stop (λ fault. tool (LayerApk one fault)) found ≡ Ok table
    → or_stop (λ fault. tool (LayerApk other fault)) found ≡ Ok table
same_table one other (Ok bytes) table is = is
same_table one other (Err fault) table is = absurd cc

same_file : (one other : ℕ) (path : List ℕ) (read : Result (List ℕ) StopOf) (table : List ℕ) → (read >>= table_within (LayerApk one) path) ≡ Ok table
    → (read >>= table_within (LayerApk other) path) ≡ Ok table
same_file one other path (Ok bytes) table is = same_table one other (table_in_file path bytes) table is
same_file one other path (Err stop) table is = absurd cc

as_overlay : (places : Places) (path table : List ℕ) → layer_table_of 0 places path ≡ Ok table → layer_table_of 1 places path ≡ Ok table
unfolding table_at
as_overlay places path table is = same_file 0 1 path (or_stop (stop_at (file path)) (places (table_place path))) table is

pub read_once : (known : Option Places) (target_path overlay_path table : List ℕ) → overlay_path ≡ target_path
    → IfSome known (λ places. layer_table_of 0 places target_path ≡ Ok table)
    → IfSome known (λ places. map_files places target_path overlay_path ≡ Ok (record { target = table; overlay = table }))
unfolding map_files
read_once None target_path overlay_path table path is_read = tt
read_once (Some places) target_path overlay_path table path is_read = rw (path, is_read, as_overlay places target_path table is_read) refl
