-- The program's words as clap is told of them.
use Rattle.std.specs.Prelude.{[], ◌∷◌, Some, pos, true, codes}
use Rattle.clap.specs.Words.{App, Rule, new_app, new_rule, with_rule, with_subcommand}
use Rattle.clap.specs.declared.builder.ArgAction.TheVariants.{Set}
use Rattle.clap.specs.declared.builder.value_parser.ValueParser.TheVariants as parser

-- the option `--workers N`: a number from 1 to 16, and 2 where it is not given
abbrev pub workers : Rule
workers = record (new_rule (codes "workers")) {
  long = Some (codes "workers");
  value_names = 1;
  action = Some Set;
  parser = Some (parser.Signed (pos 1) (pos 16));
  defaults = codes "2" ∷ [];
}

-- the subcommands
abbrev pub run : App
run = new_app (codes "run")

abbrev pub trace : App
trace = new_app (codes "trace")

abbrev pub pool : App
pool = with_rule (new_app (codes "pool")) workers

-- the program without them, of which it requires one
abbrev pub bare : App
bare = let named = new_app (codes "statem") in record named { top = record named.top { subcommand_required = true } }

-- the program
abbrev pub statem : App
statem = with_subcommand (with_subcommand (with_subcommand bare run.top) trace.top) pool.top
