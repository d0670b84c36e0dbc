use Rattle.std.proofs.Common.{rules, codes, [], ◌∷◌}
use Rattle.std.specs.Fmt.{decimal}
use Rattle.binkp_args.specs.Escape.{escaped}
use Rattle.ftn_addr.specs.Address.{address}
use Rattle.ftn_addr.specs.Writing.{canonical}
use Rattle.outbound_lines.specs.Listing.{flavour_word}
use Rattle.outbound_lines.proofs.Joined.{further, further_four, further_six, nothing, on_ok}
use Rattle.outbound_lines.proofs.listing.push_entry.Goals as goal

pub returns : goal.returns
returns c = on_ok c.push_end.result _ _ (λ ended.
    further_six c.args.lines.now.list _ c.push_slice-2.new.self.list (decimal c.args.item.now.key.size) (codes " ") (decimal c.args.item.now.key.time) (codes " ") (escaped c.args.item.now.key.name.list) (10 ∷ []) c.push_end.new.lines.list
    (further c.args.lines.now.list _ c.push_slice.new.self.list (codes " ") c.push_slice-2.new.self.list
    (further c.args.lines.now.list _ c.push_start.new.lines.list (flavour_word c.args.item.now.flavour) c.push_slice.new.self.list
    (further_four c.args.lines.now.list [] c.args.lines.now.list (decimal c.args.item.now.number) (codes " ") (canonical (address c.args.item.now.dest)) (codes " ") c.push_start.new.lines.list (nothing c.args.lines.now.list) c.in_ok-push_start.ensures)
    (search rules)) c.in_ok-push_slice-2.ensures.ok)
    ended) c.push_end.ensures
