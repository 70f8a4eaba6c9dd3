-- The names of a sitting are distinct.
use Rattle.std.proofs.Common.{◌∙◌, ℕ, Some, ap, sym}
use Rattle.std.specs.Option.{option_map}
use Rattle.std.proofs.lemmas.Option.{slice_get-map}
use Rattle.night_plan.specs.declared.commands.Command.{Command}
use Rattle.night_drive.specs.Distinct.{AreDistinct}
use Rattle.drive_runs.specs.declared.sittings.Sitting.{Sitting}

pub sitting_distinct : (s : Sitting) → AreDistinct s.plan s.names
sitting_distinct s =
    let own : Command → ℕ = λ command. command.group in
    record {
      plain = λ g name at. (s.plain.each g name at).plain;
      groups = λ g h name. s.plain.own g h name;
      keys = λ i j a b key is also same has too.
          s.own_keys i j a.group key
          (record {
            is_in = slice_get-map own s.plan.commands.items i ∙ ap (option_map own) is;
            has = has;
          })
          (record {
            is_in = slice_get-map own s.plan.commands.items j ∙ ap (option_map own) also
                ∙ ap Some (sym same);
            has = too;
          });
    }
