-- `sheets::file_part` meets its contract: the part of what was read, or of the refusal, is the file's.
-- Assumes nothing.
use Rattle.std.proofs.Common.{refl}
use Rattle.sheets.proofs.FileRead.{refused_part_lem, read_scheme}
use Rattle.sheets.proofs.Prints.{put_as}
use Rattle.sheets.proofs.file_part.Goals as goal

pub read_part-requires-clause-entries_value : goal.read_part-requires-clause-entries_value
read_part-requires-clause-entries_value c = read_scheme _ _ _ _ _ _ refl refl c.read.ensures _ c.in-Ok.is

pub returns-in-Err-clause-put : goal.returns-in-Err-clause-put
returns-in-Err-clause-put c =
    put_as _ _ (refused_part_lem _ _ _ _ _ _ refl refl c.read.ensures _ c.in-Err.is _ c.number.ensures _ _) c.refused_part.ensures.put
