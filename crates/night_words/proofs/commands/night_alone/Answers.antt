use Rattle.std.proofs.Common.{◌∙◌, ap, true}
use Rattle.clap.specs.Words.{App}
use Rattle.clap.specs.Simple.{app_of_fields}
use Rattle.night_words.proofs.commands.night_alone.Goals as goal

-- a command line for which a command is wanted, and some word
abbrev wanting : App → App
wanting a = record {
  top = record a.top { arg_required_else_help = true; subcommand_required = true };
  subs = a.subs;
}

-- one with a version, too
abbrev whole : App → App
whole a = wanting (record { top = record a.top { has_version = true }; subs = a.subs })

pub returns : goal.returns
returns c =
    ap app_of_fields c.arg_required_else_help.ensures
    ∙ ap (λ it. app_of_fields (record it { arg_required_else_help = true }))
    c.subcommand_required.ensures
    ∙ ap (λ it. wanting (app_of_fields it)) c.after_help.ensures
    ∙ ap (λ it. wanting (app_of_fields it)) c.version.ensures
    ∙ ap (λ it. whole (app_of_fields it)) c.about.ensures
    ∙ ap whole c.new.ensures.app
