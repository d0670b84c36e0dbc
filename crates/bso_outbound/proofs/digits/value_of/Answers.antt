use Rattle.std.proofs.Common.{◌<◌, ◌^◌, ℕ, Option, sym, ap, ◌∙◌, subst}
use Rattle.bso_outbound.specs.Digits.{four_digits}
use Rattle.bso_outbound.specs.Paths.{lower_case}
use Rattle.bso_outbound.specs.Reading.{Reads}
use Rattle.bso_outbound.proofs.Numbers.{unread_value, read_value}
use Rattle.bso_outbound.proofs.digits.value_of.Goals as goal

pub returns-in_err-bytes : goal.returns-in_err-bytes
returns-in_err-bytes c =
    subst (λ (o : Option ℕ). Reads (λ n. n < 2 ^ 16) four_digits c.args.digits.now o) (sym c.from_residual.ensures) (unread_value c.args.digits.now c.from_hex.result c.ok.result c.from_hex.ensures c.ok.ensures.value c.in_err-bytes.was)

pub returns : goal.returns
returns c =
    (c.from_be_bytes.type_inv, read_value c.args.digits.now c.from_hex.result c.ok.result c.in_ok-bytes.bytes c.from_hex.ensures c.ok.ensures.value c.in_ok-bytes.was ∙ ap (λ (n : ℕ). lower_case (four_digits n)) (sym c.from_be_bytes.ensures))
