use Rattle.std.proofs.Common.{◌≡◌, Some, refl}
use Rattle.node_store.specs.Names.{eight_digits, out_name}
use Rattle.node_store.proofs.FileNames.{is_out_name}
use Rattle.node_store.proofs.names.out_file.Goals as goal

pub unwrap-requires : goal.unwrap-requires
unfolding out_name eight_digits
unwrap-requires c =
    let name = is_out_name c.args.number c.ranges.number.fits in
    rw (c.new.ensures, c.eight-d.ensures, name) refl

pub returns : goal.returns
unfolding out_name eight_digits
returns c =
    let name = is_out_name c.args.number c.ranges.number.fits in
    let made : c.new.result ≡ Some (out_name c.args.number) = rw (c.new.ensures, c.eight-d.ensures, name) refl in
    cc (c.unwrap.ensures, made)
