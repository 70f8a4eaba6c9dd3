use Rattle.std.proofs.Common.{◌≡◌, ◌∙◌, List, ap, arith, get_or, length}
use Rattle.std.proofs.Common.{subst, sym}
use Rattle.std.proofs.lemmas.List.Elements.{All-from_all_within, AllWithin-upto, Contains-get_or}
use Rattle.std.proofs.lemmas.Option.{same_Some}
use Rattle.std.specs.List.{AllWithin}
use Rattle.std.specs.Prelude.{All, Contains}
use Rattle.night_plan.specs.declared.commands.Command.{Command}
use Rattle.night_plan.specs.declared.commands.Need.{Need}
use Rattle.night_plan.specs.declared.commands.Subject.TheVariants as subject
use Rattle.night_plan.specs.declared.commands.When.TheVariants as when
use Rattle.night_plan.proofs.Ranking.{met_more, named_from}
use Rattle.night_plan.proofs.Rows.{read}
use Rattle.night_plan.specs.Ranks.{HasRanks}
use Rattle.night_plan.proofs.ranks.blocker.Goals as goal

pub returns-in-Some-clause-search : goal.returns-in-Some-clause-search
returns-in-Some-clause-search c =
    let commands = c.args.commands.now in
    let ranks = c.args.ranks.now in
    let command = c.index-commands-c.result in
    let is = read commands c.args.c command c.requires.is c.index-commands-c.is in
    let value : c.as_slice-needs.result.now ≡ command.needs.items =
    c.as_slice-needs.ensures.value
    ∙ ap (λ (x : Command). x.needs.items) (sym c.index-commands-c.is) in
    record {
      groups = c.in-Some.ensures.groups;
      needs = met_more commands ranks c.loop-k.met.items c.args.c c.loop-k.k command is
          (let len = ap length value in omega (arith, len))
          (subst (λ (xs : List Need). AllWithin (HasRanks commands ranks) xs 0 c.loop-k.k) value
          c.loop-k.invariant.upto) c.loop-k.invariant.met;
    }

pub returns-in-Some-clause-named : goal.returns-in-Some-clause-named
returns-in-Some-clause-named c =
    let commands = c.args.commands.now in
    let command = c.index-commands-c.result in
    let needs = c.as_slice-needs.result.now in
    let is = read commands c.args.c command c.requires.is c.index-commands-c.is in
    let value : needs ≡ command.needs.items =
    c.as_slice-needs.ensures.value
    ∙ ap (λ (x : Command). x.needs.items) (sym c.index-commands-c.is) in
    let need : Need = get_or needs c.loop-k.k
    (record { of = subject.Command 0; when = when.Well }) in (
      record {
        need = need;
        has = record {
          command = command;
          is = is;
          listed = subst (λ (xs : List Need). Contains xs need) value
              (Contains-get_or needs c.loop-k.k _ c.loop-k-test.true);
        };
        named = named_from commands need.of c.args.c c.in-Some.d c.in-Some.ensures.named.0;
      },
      c.in-Some.ensures.named.1,
    )

pub returns-clause-search : goal.returns-clause-search
returns-clause-search c = record {
  groups = c.loop-k.invariant.groups;
  needs = c.loop-k.invariant.met;
}

pub returns-clause-named : goal.returns-clause-named
returns-clause-named c command is =
    let commands = c.args.commands.now in
    let ranks = c.args.ranks.now in
    let needs = c.as_slice-needs.result.now in
    let mine = c.index-commands-c.result in
    let here = read commands c.args.c mine c.requires.is c.index-commands-c.is in
    let equal : mine ≡ command = same_Some mine command (sym here ∙ is) in
    let value : needs ≡ mine.needs.items =
    c.as_slice-needs.ensures.value
    ∙ ap (λ (x : Command). x.needs.items) (sym c.index-commands-c.is) in
    let all : All (HasRanks commands ranks) needs =
    All-from_all_within (HasRanks commands ranks) needs
    (AllWithin-upto (HasRanks commands ranks) needs 0 c.loop-k.k (length needs)
    c.loop-k-test.false c.loop-k.invariant.upto) in
    subst (λ (x : Command). All (HasRanks commands ranks) x.needs.items) equal
    (subst (λ (xs : List Need). All (HasRanks commands ranks) xs) value all)
