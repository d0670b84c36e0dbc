-- The first line that a source gives, and the path of a call mark.
use Rattle.std.proofs.Common.{◌≡◌, ◌∙◌, ℕ, ◌+◌, ◌-◌, ◌<◌, ◌==◌, arith, Bool, true, false, List, [], ◌∷◌, ◌++◌, length, take, append_assoc, length-append, Option, Some, None, option_map, refl, sym, ap, subst}
use Rattle.std.specs.Prelude.{codes, slice_get, if◌then◌else◌}
use Rattle.std.proofs.lemmas.List.{append-nil, take_at}
use Rattle.ftn_addr.specs.Address.{Address}
use Rattle.ftn_addr.specs.Counts.{next_count}
use Rattle.binkp_link.specs.Lines.{LineBytes, LineState}
use Rattle.binkp_link.specs.LineSources.{Gave, GaveTold, IsOut, IsOutTold, LinesState, LinesTold, dialling}
use Rattle.binkp_link.specs.declared.line_source.LineCounts.{LineCounts}
use Rattle.bso_outbound.specs.Digits.{eight_digits}
use Rattle.bso_outbound.specs.Kinds.{ending}
use Rattle.bso_outbound.specs.Names.{name_in_zone, node_digits, outbound_name, path_ending, point_folder, zone_folder}
use Rattle.bso_outbound.specs.declared.kind.Kind.TheVariants.{Request}
use Rattle.binkp_mailer.specs.OverLines.{IsFresh, NoneHanded}

-- it is out at the first place

out_told : (a b : Option LinesTold) (bytes : Option LineBytes) → NoneHanded a → GaveTold bytes a b → IsOutTold 0 b
out_told None None bytes none told = tt
out_told None (Some b) (Some bytes) none told = absurd told
out_told None (Some b) None none told = absurd told
out_told (Some a) None bytes none told = tt
out_told (Some a) (Some b) None none told = absurd told
out_told (Some a) (Some b) (Some bytes) none told =
    subst (λ (x : LinesTold). slice_get x.handed 0 ≡ Some None) (sym told) (subst (λ (h : List (Option LineState)). slice_get (h ++ None ∷ []) 0 ≡ Some None) (sym none) refl)

pub first_out : (line : LineState) (lines mid : LinesState) → IsFresh lines → Gave line lines mid → IsOut 0 mid
first_out line lines mid fresh gave = record {
  given = subst (λ (n : ℕ). 0 < n) (sym (ap (λ (c : LineCounts). c.given) gave.counts ∙ ap next_count fresh.given)) (omega arith);
  told = out_told lines.told mid.told line.bytes fresh.told gave.told;
}

-- a dial gives none by itself
pub dialling_fresh : (host : List ℕ) (port : ℕ) (lines : LinesState) → IsFresh lines → IsFresh (dialling host port lines)
dialling_fresh host port lines fresh = record { given = fresh.given; told = go lines.told fresh.told }
  where
    go : (t : Option LinesTold) → NoneHanded t → NoneHanded (option_map (λ (told : LinesTold). record told { dialled = told.dialled ++ record { host = host; port = port } ∷ [] }) t)
    go None none = tt
    go (Some t) none = none

-- The path of a mark: that of a request, with another ending of four bytes.

abbrev front_of : Address → List ℕ → ℕ → List ℕ
front_of a base default = zone_folder base a.zone default ++ 47 ∷ name_in_zone (a.net, a.node) a.point []

ends_behind : (front : List ℕ) (node : ℕ × ℕ) (point : ℕ) (end : List ℕ) (b : Bool)
    → front ++ 47 ∷ (if b then node_digits node ++ end else point_folder node ++ 47 ∷ (eight_digits point ++ end)) ≡ (front ++ 47 ∷ (if b then node_digits node ++ [] else point_folder node ++ 47 ∷ (eight_digits point ++ []))) ++ end
ends_behind front node point end true =
    ap (λ (l : List ℕ). front ++ 47 ∷ (l ++ end)) (sym (append-nil (node_digits node))) ∙ sym (append_assoc front (47 ∷ (node_digits node ++ [])) end)
ends_behind front node point end false =
    ap (λ (l : List ℕ). front ++ 47 ∷ l) (ap (λ (l : List ℕ). point_folder node ++ 47 ∷ (l ++ end)) (sym (append-nil (eight_digits point))) ∙ sym (append_assoc (point_folder node) (47 ∷ (eight_digits point ++ [])) end))
    ∙ sym (append_assoc front (47 ∷ (point_folder node ++ 47 ∷ (eight_digits point ++ []))) end)

path_split : (a : Address) (end base : List ℕ) (default : ℕ) → path_ending a end base default ≡ front_of a base default ++ end
path_split a end base default = ends_behind (zone_folder base a.zone default) (a.net, a.node) a.point end (a.point == 0)

pub call_mark_is : (a : Address) (base : List ℕ) (default : ℕ) (path cut whole : List ℕ) (len front : ℕ) → path ≡ outbound_name a Request base default → len ≡ length path → front ≡ len - 4 → cut ≡ take front path → whole ≡ cut ++ codes ".csy"
    → whole ≡ path_ending a (codes ".csy") base default
call_mark_is a base default path cut whole len front is length_is front_is cut_is whole_is =
    let x = front_of a base default in
    let split : path ≡ x ++ ending Request = is ∙ path_split a (ending Request) base default in
    let long : length path ≡ length x + 4 = ap length split ∙ length-append x (ending Request) in
    let at : front ≡ length x = omega (arith, front_is, length_is, long) in
    whole_is ∙ ap (λ (l : List ℕ). l ++ codes ".csy") (cut_is ∙ ap (take front) split ∙ take_at x (ending Request) front (sym at)) ∙ sym (path_split a (codes ".csy") base default)
