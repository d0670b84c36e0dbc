use Rattle.std.proofs.Common.{◌≡◌, ◌<◌, List, arith, ap, get_or, length, max, refl, sym, ◌∙◌}
use Rattle.std.proofs.lemmas.List.{get_or_default}
use Rattle.ftn_addr.specs.Address.{Address, address}
use Rattle.call_sched.specs.Tries.{last_try}
use Rattle.call_sched.specs.declared.words.Try.{Try}
use Rattle.file_index.proofs.Order.{same_address_is}
use Rattle.binkp_serve.specs.Calling.{tried_so}
use Rattle.binkp_serve.proofs.Tries.{noted_again, noted_first}
use Rattle.binkp_serve.proofs.calling.note_try.Goals as goal

pub returns-then-is_same_address-clause-ok : goal.returns-then-is_same_address-clause-ok
returns-then-is_same_address-clause-ok c =
    let tries = c.args.tries.now.items in
    let place = c.place_of-place.result in
    let d : Try = c.index.result.now in
    let within : place < length tries = omega (arith, c.if-place-len.true, c.len.ensures) in
    let read : (x : Try) → x ≡ get_or tries place x → x ≡ get_or tries place d = λ x is. is ∙ get_or_default tries place x d within in
    let same : address d.addr ≡ address c.args.addr.now = same_address_is (address d.addr) (address c.args.addr.now) (sym c.is_same_address.ensures ∙ c.if-is_same_address.true) in
    let was : address (get_or tries place d).addr ≡ address c.args.addr.now = ap (λ (t : Try). address t.addr) (sym (read d c.index.ensures)) ∙ same in
    noted_again (address c.args.addr.now) c.args.at tries place (record { addr = c.index_mut.result.now.addr; at = c.max.result }) d within was
    (ap (λ (t : Try). address t.addr) (read c.index_mut.result.now c.index_mut.ensures.value) ∙ was)
    (c.max.ensures ∙ ap (λ (t : Try). max t.at c.args.at) (read c.index-then-is_same_address.result.now c.index-then-is_same_address.ensures))

pub returns-clause-ok : goal.returns-clause-ok
returns-clause-ok c = λ a.
    let made : Try = record { addr = c.in_ok-copy.field-0; at = c.args.at } in
    ap (λ (l : List Try). last_try l a) c.in_ok-insert.ensures.items
    ∙ (noted_first c.args.tries.now.items c.place_of-place.result made a
    ∙ ap (λ (x : Address). tried_so x c.args.at c.args.tries.now.items a) c.in_ok-copy.ensures)
