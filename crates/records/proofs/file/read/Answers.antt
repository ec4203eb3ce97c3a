use Rattle.std.proofs.Common.{rules, ◌≡◌}
use Rattle.records.specs.Files.{read_file}
use Rattle.records.proofs.Facts.{if_sound}
use Rattle.records.proofs.file.read.Goals as goal

pub returns-clause-sound : goal.returns-clause-sound
returns-clause-sound c = let value : c.read_records.result ≡ read_file c.args.file.now = search rules in if_sound c.args.file.now c.read_records.result value
