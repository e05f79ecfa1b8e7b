use Rattle.st_json.proofs.LineLemmas.{line_of}
use Rattle.st_json.proofs.lines.entry_json_line.Goals as goal

pub returns : goal.returns
returns g c =
    line_of _ _ _ _ c.in_ok-value.ensures c.in_ok-push_str.ensures.bytes c.in_ok-line.ensures.text c.in_ok-line.ensures.reads_back
