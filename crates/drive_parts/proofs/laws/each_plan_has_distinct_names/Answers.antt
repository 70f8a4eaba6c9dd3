use Rattle.std.proofs.Common.{◌∙◌, ℕ, Some, ap, sym}
use Rattle.std.specs.Option.{option_map}
use Rattle.std.proofs.lemmas.Option.{slice_get-map}
use Rattle.night_plan.specs.declared.commands.Command.{Command}
use Rattle.drive_parts.proofs.laws.each_plan_has_distinct_names.Goals as goal

pub returns-clause-names : goal.returns-clause-names
returns-clause-names c n night = record { groups = n.named; keys = n.keyed }

pub returns-clause-distinct : goal.returns-clause-distinct
returns-clause-distinct c n night =
    let own : Command → ℕ = λ command. command.group in
    record {
      plain = λ g name at. (n.names.each g name at).plain;
      groups = λ g h name. n.names.own g h name;
      keys = λ i j a b key is also same has too.
          n.own_keys i j a.group key
          (record {
            is_in =
                slice_get-map own n.plan.commands.items i ∙ ap (option_map own) is;
            has = has;
          })
          (record {
            is_in =
                slice_get-map own n.plan.commands.items j ∙ ap (option_map own) also
                ∙ ap Some (sym same);
            has = too;
          });
    }
