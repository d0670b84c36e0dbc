use Rattle.std.proofs.Common.{◌≡◌, Some, refl, ◌∙◌, ap}
use Rattle.ftn_addr.specs.Address.{address}
use Rattle.node_store.specs.Names.{is_note, mark_name}
use Rattle.node_store.proofs.FileNames.{is_mark_name}
use Rattle.node_store.proofs.NoteNames.{mark_is_note}
use Rattle.node_store.proofs.names.mark_file.Goals as goal

pub unwrap-requires : goal.unwrap-requires
unwrap-requires c =
    let name = is_mark_name (address c.args.addr.now) c.args.kind c.mark_bytes-name.ensures.place in
    rw (c.new.ensures, c.mark_bytes-name.ensures.bytes, name) refl

pub returns-clause-name : goal.returns-clause-name
returns-clause-name c =
    let name = is_mark_name (address c.args.addr.now) c.args.kind c.mark_bytes-name.ensures.place in
    let made : c.new.result ≡ Some (mark_name (address c.args.addr.now) c.args.kind) = rw (c.new.ensures, c.mark_bytes-name.ensures.bytes, name) refl in
    cc (c.unwrap.ensures, made)

pub returns-clause-note : goal.returns-clause-note
returns-clause-note c =
    let name = is_mark_name (address c.args.addr.now) c.args.kind c.mark_bytes-name.ensures.place in
    let made : c.new.result ≡ Some (mark_name (address c.args.addr.now) c.args.kind) = rw (c.new.ensures, c.mark_bytes-name.ensures.bytes, name) refl in
    let is : c.unwrap.result ≡ mark_name (address c.args.addr.now) c.args.kind = cc (c.unwrap.ensures, made) in
    ap is_note is ∙ mark_is_note (address c.args.addr.now) c.args.kind c.mark_bytes-name.ensures.place
