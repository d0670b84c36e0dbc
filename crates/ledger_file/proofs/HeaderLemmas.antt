-- The header at the front of some bytes.
use Rattle.std.proofs.Common.{◌≡◌, ℕ, ◌+◌, ◌*◌, ◌<◌, ◌^◌, true, false, List, ◌++◌, get_or, take, drop, sym, ◌∙◌, ap, take-append-drop}
use Rattle.std.specs.Str.{bytes_eq}
use Rattle.std.proofs.lemmas.Nat.{from_be_bytes-to_be_bytes_4}
use Rattle.std.proofs.lemmas.Slice.Eq.{bytes_eq-Decides}
use Rattle.ledger_file.specs.Text.{header_of}
use Rattle.ledger_file.specs.Reading.{IsNoLedger}

pub with_header : (bytes h : List ℕ) (version : ℕ) → bytes_eq (take 16 bytes) h ≡ true → h ≡ header_of version → bytes ≡ header_of version ++ drop 16 bytes
with_header bytes h version same is =
    let front : take 16 bytes ≡ header_of version = (bytes_eq-Decides (take 16 bytes) h).0 same ∙ is in
    sym (take-append-drop 16 bytes) ∙ ap (λ (l : List ℕ). l ++ drop 16 bytes) front

-- the version that is read is the header's
pub same_version : (bytes rest : List ℕ) (version found : ℕ) → version < 2 ^ 32 → bytes ≡ header_of version ++ rest
    → found ≡ get_or bytes 8 0 * 16777216 + get_or bytes 9 0 * 65536 + get_or bytes 10 0 * 256 + get_or bytes 11 0 → found ≡ version
same_version bytes rest version found number is read =
    read ∙ ap (λ (l : List ℕ). get_or l 8 0 * 16777216 + get_or l 9 0 * 65536 + get_or l 10 0 * 256 + get_or l 11 0) is ∙ from_be_bytes-to_be_bytes_4 version number

pub no_header : (bytes h : List ℕ) (found : ℕ) → found ≡ get_or bytes 8 0 * 16777216 + get_or bytes 9 0 * 65536 + get_or bytes 10 0 * 256 + get_or bytes 11 0
    → h ≡ header_of found → bytes_eq (take 16 bytes) h ≡ false → IsNoLedger bytes
no_header bytes h found read is differs version rest number front =
    let same = same_version bytes rest version found number front read in
    let ahead : take 16 bytes ≡ h = ap (λ (l : List ℕ). take 16 l) front ∙ sym (is ∙ ap header_of same) in
    let equal : bytes_eq (take 16 bytes) h ≡ true = (bytes_eq-Decides (take 16 bytes) h).1 ahead in
    cc (equal, differs)
