-- Shares and answers, without where they lie in memory.
use Rattle.std.specs.Prelude.{map}
use Rattle.file_request.specs.Answer.{AnswerText}
use Rattle.file_request.specs.Share.{SharedFolder}
use Rattle.file_request.specs.declared.answer.Answer.{Answer}
use Rattle.file_request.specs.declared.share.Share.{Share}

abbrev pub shared : Share → SharedFolder
shared share = record { folder = share.folder.list; names = map (λ name. name.list) share.names.items }

abbrev pub answered : Answer → AnswerText
answered answer = record { files = map (λ file. file.list) answer.files.items; passed = answer.passed }
