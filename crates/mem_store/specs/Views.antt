-- What contracts see of a record in memory, and of a file's content.
use Rattle.std.specs.Prelude.{Option, Some, None}
use Rattle.ftn_addr.specs.Address.{address}
use Rattle.ftn_addr.specs.Content.{Content}
use Rattle.ftn_addr.specs.Key.{key_of}
use Rattle.node_model.specs.Items.{Body, Live, Done}
use Rattle.node_model.specs.Node.{Record, Queue_record, Done_record, Received_record, Refused_record, Mark_record, Taken_record, Acted_record, Answered_record}
use Rattle.mem_store.specs.declared.log_record.LogRecord.{LogRecord}
use Rattle.mem_store.specs.declared.log_record.LogRecord.TheVariants as L

abbrev pub record_of : LogRecord → Record
record_of (L.Queued number dest key flavour source action) = Queue_record number (address dest) (key_of key) flavour source.list action
record_of (L.Done number session) = Done_record number session
record_of (L.Received receipt from key session secure) = Received_record receipt (address from) (key_of key) session secure
record_of (L.Refused from key session reason) = Refused_record (address from) (key_of key) session reason
record_of (L.Marked part from key size) = Mark_record part (address from) (key_of key) size
record_of (L.Taken take) = Taken_record take
record_of (L.Acted number) = Acted_record number
record_of (L.Answered receipt) = Answered_record receipt

-- a file that has no content any more is settled
abbrev pub body_of : Option Content → Body
body_of None = Done
body_of (Some content) = Live content.list
