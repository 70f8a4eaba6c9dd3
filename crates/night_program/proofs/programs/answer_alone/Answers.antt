use Rattle.std.proofs.Common.{refl}
use Rattle.night_program.proofs.programs.answer_alone.Goals as goal

pub returns-in-Format : goal.returns-in-Format
returns-in-Format g c lists = rw c.in-Format.is (c.format_file.ensures, refl)

pub returns-in-Inspect : goal.returns-in-Inspect
returns-in-Inspect g c lists = rw c.in-Inspect.is (c.inspect_file.ensures, refl)

pub returns-in-Migrate : goal.returns-in-Migrate
returns-in-Migrate g c lists = rw c.in-Migrate.is (c.migrate_file.ensures, refl)

pub returns-in-Renew : goal.returns-in-Renew
returns-in-Renew g c lists = rw c.in-Renew.is (c.renew_file.ensures, refl)

pub returns-in-RenewInPlace : goal.returns-in-RenewInPlace
returns-in-RenewInPlace g c lists = rw c.in-RenewInPlace.is (c.renew_in_place.ensures, refl)
