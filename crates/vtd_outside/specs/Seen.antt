-- The objects in memory as contracts see all files: every byte is known. This project's own.
use Rattle.std.specs.Prelude.{Some, is_some}
use Rattle.vtd_outside.specs.Known.{SeenFiles}
use Rattle.vtd_outside.specs.Objects.{FilesState, lookup}

abbrev pub memory_seen : FilesState → SeenFiles
memory_seen s = record {
  contents = Some (lookup s.files);
  opened = s.opened;
  writing = s.writing;
  is_reading = is_some s.opened;
  is_writing = is_some s.writing;
  missed = s.missed;
  proper = s.proper;
}
