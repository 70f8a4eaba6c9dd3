use Rattle.std.proofs.Common.{map}
use Rattle.std.specs.String.{string_bytes}
use Rattle.clap.specs.Words.{app_of, kind_of}
use Rattle.night_words.proofs.AnswerLemmas.{command_is_answer, command_is_asked}
use Rattle.night_words.proofs.AnswerLemmas.{command_is_cause, command_is_named}
use Rattle.night_words.proofs.AnswerLemmas.{error_asks_nothing, error_is_answered}
use Rattle.night_words.proofs.AnswerLemmas.{error_is_no_clash}
use Rattle.night_words.proofs.readers.read_words.Goals as goal

pub request_of-requires : goal.request_of-requires
request_of-requires c =
    command_is_named (app_of c.in-Ok.command) (map string_bytes c.args.words.now)
    c.in-Ok-try_get_matches_from.matches c.in-Ok.ensures
    c.in-Ok-try_get_matches_from.ensures.kinds c.in-Ok-try_get_matches_from.ensures.matches

pub returns-in-Ok-try_get_matches_from-clause-answer
    : goal.returns-in-Ok-try_get_matches_from-clause-answer
returns-in-Ok-try_get_matches_from-clause-answer c =
    command_is_answer (app_of c.in-Ok.command) (map string_bytes c.args.words.now)
    c.in-Ok-try_get_matches_from.matches c.in-Ok.ensures
    c.in-Ok-try_get_matches_from.ensures.kinds c.in-Ok-try_get_matches_from.ensures.matches
    c.request_of.result c.request_of.ensures

pub returns-in-Ok-try_get_matches_from-clause-asks
    : goal.returns-in-Ok-try_get_matches_from-clause-asks
returns-in-Ok-try_get_matches_from-clause-asks c =
    command_is_asked (app_of c.in-Ok.command) (map string_bytes c.args.words.now)
    c.in-Ok-try_get_matches_from.matches c.in-Ok.ensures
    c.in-Ok-try_get_matches_from.ensures.kinds c.in-Ok-try_get_matches_from.ensures.matches
    c.request_of.result c.request_of.ensures

pub returns-in-Err-clause-answer : goal.returns-in-Err-clause-answer
returns-in-Err-clause-answer c =
    error_is_answered _ (map string_bytes c.args.words.now) c.in-Err.error c.shown.result
    c.in-Ok.ensures c.in-Err.ensures.kinds c.shown.ensures

pub returns-in-Err-clause-asks : goal.returns-in-Err-clause-asks
returns-in-Err-clause-asks c =
    error_asks_nothing (kind_of c.in-Err.error) (map string_bytes c.args.words.now)
    c.shown.result c.shown.ensures

pub returns-in-Ok-try_get_matches_from-clause-cause
    : goal.returns-in-Ok-try_get_matches_from-clause-cause
returns-in-Ok-try_get_matches_from-clause-cause c =
    command_is_cause (app_of c.in-Ok.command) (map string_bytes c.args.words.now)
    c.in-Ok-try_get_matches_from.matches c.in-Ok.ensures
    c.in-Ok-try_get_matches_from.ensures.kinds c.in-Ok-try_get_matches_from.ensures.matches
    c.request_of.result c.request_of.ensures

pub returns-in-Err-clause-cause : goal.returns-in-Err-clause-cause
returns-in-Err-clause-cause c =
    error_is_no_clash (kind_of c.in-Err.error) (map string_bytes c.args.words.now)
    c.shown.result c.shown.ensures
