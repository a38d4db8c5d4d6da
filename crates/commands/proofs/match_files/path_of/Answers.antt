use Rattle.std.proofs.Common.{◌∙◌, sym, append_assoc, codes}
use Rattle.std.proofs.lemmas.Result.{IfOk-weaker}
use Rattle.commands.specs.MatchFiles.{file_name}
use Rattle.commands.proofs.match_files.path_of.Goals as goal

pub returns : goal.returns
returns c = IfOk-weaker c.format.result _ _ (λ path is. is ∙ sym (append_assoc c.args.folder.now (codes "/") (file_name c.args.file))) (rw c.name-name.ensures at c.format.ensures.ok)
