use Rattle.std.proofs.Common.{codes, [], ◌∷◌}
use Rattle.std.specs.Fmt.{decimal}
use Rattle.binkp_args.specs.Escape.{escaped}
use Rattle.ftn_addr.specs.Address.{address}
use Rattle.ftn_addr.specs.Writing.{canonical}
use Rattle.outbound_lines.proofs.Joined.{further_four, further_six, on_ok}
use Rattle.outbound_lines.proofs.listing.push_part.Goals as goal

pub returns : goal.returns
returns c = on_ok c.push_end.result _ _ (λ ended.
    further_six c.args.lines.now.list _ c.push_start.new.lines.list (decimal c.args.item.now.len) (codes " ") (decimal c.args.item.now.key.size) (codes " ") (escaped c.args.item.now.key.name.list) (10 ∷ []) c.push_end.new.lines.list
    (further_four c.args.lines.now.list (codes "part ") c.push_slice.new.self.list (decimal c.args.item.now.part) (codes " ") (canonical (address c.args.item.now.from)) (codes " ") c.push_start.new.lines.list c.in_ok-push_slice.ensures.ok c.in_ok-push_start.ensures)
    ended) c.push_end.ensures
