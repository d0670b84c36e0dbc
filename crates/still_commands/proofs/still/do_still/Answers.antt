use Rattle.std.proofs.Common.{ap}
use Rattle.command_words.specs.Forms.{still_command}
use Rattle.still_commands.specs.Still.{Before_takes}
use Rattle.still_commands.proofs.still.do_still.Goals as goal

pub returns-in-Lookup : goal.returns-in-Lookup
returns-in-Lookup g c = rw (ap still_command c.in-Lookup.is) (Before_takes c.look_up.ensures)

pub returns-in-Compile : goal.returns-in-Compile
returns-in-Compile g c = rw (ap still_command c.in-Compile.is) (Before_takes c.compile_file.ensures)

pub returns-in-List : goal.returns-in-List
returns-in-List g c = rw (ap still_command c.in-List.is) (Before_takes c.list_store.ensures)

pub returns-in-Take : goal.returns-in-Take
returns-in-Take g c = rw (ap still_command c.in-Take.is) c.take_outbound.ensures
