use Rattle.std.proofs.Common.{◌≡◌, map}
use Rattle.std.specs.String.{string_bytes}
use Rattle.clap.specs.Simple.{app_of}
use Rattle.db_arguments.specs.Form.{app}
use Rattle.db_arguments.proofs.Form.{app_is, bare_of, refused_of, taken_of}
use Rattle.db_arguments.proofs.parsing.matches.Goals as goal

pub returns-clause-taken : goal.returns-clause-taken
returns-clause-taken c =
    let bare_is = bare_of c.new.result c.disable_help_flag.result c.no_binary_name.result c.no_binary_name.ensures c.disable_help_flag.ensures c.new.ensures.app in
    let same : app_of c.in_ok-command.command ≡ app =
    app_is _ _ _ _ _ _ _ _ _ bare_is (c.in_ok-arg.ensures.shape c.option.ensures.local) (c.in_ok-arg-2.ensures.shape c.option-2.ensures.local) (c.in_ok-arg-3.ensures.shape c.option-3.ensures.local) (c.in_ok-command.ensures.shape c.new-2.ensures.optional.1)
    c.option.ensures.rule c.option-2.ensures.rule c.option-3.ensures.rule c.new-2.ensures.rule in
    taken_of (app_of c.in_ok-command.command) (map string_bytes c.args.words.now) c.try_get_matches_from.result same c.try_get_matches_from.ensures.kinds c.try_get_matches_from.ensures.matches

pub returns-clause-refused : goal.returns-clause-refused
returns-clause-refused c =
    let bare_is = bare_of c.new.result c.disable_help_flag.result c.no_binary_name.result c.no_binary_name.ensures c.disable_help_flag.ensures c.new.ensures.app in
    let same : app_of c.in_ok-command.command ≡ app =
    app_is _ _ _ _ _ _ _ _ _ bare_is (c.in_ok-arg.ensures.shape c.option.ensures.local) (c.in_ok-arg-2.ensures.shape c.option-2.ensures.local) (c.in_ok-arg-3.ensures.shape c.option-3.ensures.local) (c.in_ok-command.ensures.shape c.new-2.ensures.optional.1)
    c.option.ensures.rule c.option-2.ensures.rule c.option-3.ensures.rule c.new-2.ensures.rule in
    refused_of (app_of c.in_ok-command.command) (map string_bytes c.args.words.now) c.try_get_matches_from.result same c.try_get_matches_from.ensures.kinds
