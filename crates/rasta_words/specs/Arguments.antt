-- Commands with one argument or subcommand more. Each definition is shut, so that the chain of a command stays short in
-- each goal.
use Rattle.std.specs.Prelude.{true, codes, Some}
use Rattle.clap.specs.Words.{App, Text, new_rule, with_rule, with_subcommand}
use Rattle.clap.specs.declared.builder.action.ArgAction.TheVariants.{SetTrue}

-- the command with an option that has a value, `--name VALUE`
unfoldable pub with_option : App → Text → App
with_option app name = with_rule app (record (new_rule name) { long = Some name })

-- the command with such an option, which is required
unfoldable pub with_required : App → Text → App
with_required app name = with_rule app (record (new_rule name) { long = Some name; required = true })

-- the command with an option that has no value, `--name`
unfoldable pub with_flag : App → Text → App
with_flag app name = with_rule app (record (new_rule name) { long = Some name; action = Some SetTrue })

-- the command with an argument that its place tells, which is required
unfoldable pub with_operand : App → Text → App
with_operand app name = with_rule app (record (new_rule name) { required = true })

-- the command with an argument that its place tells, which may be missing
unfoldable pub with_last : App → Text → App
with_last app name = with_rule app (new_rule name)

-- the command with a subcommand
unfoldable pub with_command : App → App → App
with_command app sub = with_subcommand app sub.top
