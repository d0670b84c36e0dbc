use Rattle.std.proofs.Common.{◌≡◌, ℕ, ◌∷◌, [], ◌++◌, ap, ◌∙◌, rules}
use Rattle.std.specs.Int.{from_bool}
use Rattle.ftn_addr.specs.Address.{address}
use Rattle.ftn_addr.specs.Key.{key_of}
use Rattle.ledger_rec.specs.Spelling.{number_bytes, address_bytes, key_bytes, flag_byte}
use Rattle.ledger_rec.proofs.Joining.{joined, flag_of}
use Rattle.ledger_rec.proofs.writing.push_received.Goals as goal

pub returns-clause-list : goal.returns-clause-list
returns-clause-list c =
    let rec = c.args.rec.now in
    let flag : c.from.result ≡ from_bool rec.secure = search rules in
    joined c.args.out.now.list c.push_number.new.out.list c.push_address.new.out.list c.push_key.new.out.list c.push_number-2.new.out.list c.push.new.out.list
    (number_bytes rec.receipt) (address_bytes (address rec.from)) (key_bytes (key_of rec.key)) (number_bytes rec.session) (flag_byte rec.secure ∷ [])
    c.push_number.ensures.list c.push_address.ensures.list c.push_key.ensures.list c.push_number-2.ensures.list
    (c.push.ensures.list ∙ ap (λ (n : ℕ). c.push_number-2.new.out.list ++ n ∷ []) (flag ∙ flag_of rec.secure))
