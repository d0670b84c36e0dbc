-- What an event leaves of the names of a place, and adds to its files.
use Rattle.std.proofs.Common.{◌≡◌, List, [], ◌∷◌, ◌++◌, map, refl, sym, ap, ◌∙◌, subst}
use Rattle.ftn_addr.specs.Address.{Address}
use Rattle.node_model.specs.Lists.{Member}
use Rattle.world_pair.specs.World.{GivenFile, Place, addresses, given_file, Occurs, Queues, Opens, Turns, Takes, Turns_last, Takes_last, Leaves, Acts, Gives, Idles, Drops, Stops_at_mark, Breaks, Breaks_behind, given_by, Takes_breaking, Leaves_broken, Stops, Stops_after_take}
use Rattle.world_pair.specs.Law.{KeysAgree}
use Rattle.node_model.proofs.Lists.{Member-append}

-- what an event leaves of the names and adds to the queued files
pub record Later (p q : Place) : Type 0 where
  pub first : q.first ≡ p.first
  pub others : q.others ≡ p.others
  pub more : List GivenFile
  pub queued : q.queued ≡ p.queued ++ more

pub append_none : (xs : List GivenFile) → xs ≡ xs ++ []
append_none [] = refl
append_none (x ∷ xs) = ap (λ l. x ∷ l) (append_none xs)

-- the same names and files
same_names : (p q : Place) → q.first ≡ p.first → q.others ≡ p.others → q.queued ≡ p.queued → Later p q
same_names p q a b c = record { first = a; others = b; more = []; queued = c ∙ append_none p.queued }

by_end : (p q r : Place) → q ≡ r → r.first ≡ p.first → r.others ≡ p.others → r.queued ≡ p.queued → Later p q
by_end p q r e a b c = same_names p q (ap (λ (x : Place). x.first) e ∙ a) (ap (λ (x : Place). x.others) e ∙ b) (ap (λ (x : Place). x.queued) e ∙ c)

pub later : (me peer me' peer' : Place) → Occurs me peer me' peer' → Later me me' × Later peer peer'
later me peer me' peer' (Queues seat files taken answered slots n row a b) = (record { first = ap (λ (x : Place). x.first) a; others = ap (λ (x : Place). x.others) a; more = map given_file files; queued = ap (λ (x : Place). x.queued) a }, by_end peer peer' peer b refl refl refl)
later me peer me' peer' (Opens line seat number n role theirs secure moment c d e a b) = (by_end me me' _ a refl refl refl, by_end peer peer' _ b refl refl refl)
later me peer me' peer' (Turns line seat n t u sent f c d a b) = (by_end me me' _ a refl refl refl, by_end peer peer' _ b refl refl refl)
later me peer me' peer' (Takes line seat n t u sent rest w f c d e a b) = (by_end me me' _ a refl refl refl, by_end peer peer' _ b refl refl refl)
later me peer me' peer' (Turns_last line seat n t f c d a b) = (by_end me me' _ a refl refl refl, by_end peer peer' _ b refl refl refl)
later me peer me' peer' (Takes_last line seat n t rest w f c d e a b) = (by_end me me' _ a refl refl refl, by_end peer peer' _ b refl refl refl)
later me peer me' peer' (Leaves line seat n f c a b) = (by_end me me' _ a refl refl refl, by_end peer peer' _ b refl refl refl)
later me peer me' peer' (Acts seat number dest n c a b) = (by_end me me' _ a refl refl refl, by_end peer peer' _ b refl refl refl)
later me peer me' peer' (Gives seat number n c a b) = (by_end me me' _ a refl refl refl, by_end peer peer' _ b refl refl refl)
later me peer me' peer' (Idles seat call answer n c d a b) = (by_end me me' _ a refl refl refl, by_end peer peer' _ b refl refl refl)
later me peer me' peer' (Breaks_behind seat call answer count made n c d e f g a b) = (record { first = ap (λ (x : Place). x.first) a; others = ap (λ (x : Place). x.others) a; more = given_by call; queued = ap (λ (x : Place). x.queued) a }, by_end peer peer' _ b refl refl refl)
later me peer me' peer' (Drops line mine theirs a b) = (by_end me me' _ a refl refl refl, by_end peer peer' _ b refl refl refl)
later me peer me' peer' (Stops o c a b) = (by_end me me' _ a refl refl refl, by_end peer peer' _ b refl refl refl)
later me peer me' peer' (Stops_at_mark seat o c d a b) = (by_end me me' _ a refl refl refl, by_end peer peer' _ b refl refl refl)
later me peer me' peer' (Breaks seat call count n c d a b) = (by_end me me' _ a refl refl refl, by_end peer peer' _ b refl refl refl)
later me peer me' peer' (Takes_breaking line seat n t rest w f c d e a b) = (by_end me me' _ a refl refl refl, by_end peer peer' _ b refl refl refl)
later me peer me' peer' (Leaves_broken line count c a b) = (by_end me me' _ a refl refl refl, by_end peer peer' _ b refl refl refl)
later me peer me' peer' (Stops_after_take o line seat n t u sent rest w f c d e g a b) = (by_end me me' _ a refl refl refl, by_end peer peer' _ b refl refl refl)

pub agree_before : (p p' q q' : Place) → Later p p' → Later q q' → KeysAgree p' q' → KeysAgree p q
agree_before p p' q q' a b agree f g mf mg df dg same =
    agree f g (there f mf) (there g mg) (addressed f df) (addressed g dg) same
  where
    there : (x : GivenFile) → Member x p.queued → Member x p'.queued
    there x m = subst (Member x) (sym a.queued) (Member-append x p.queued a.more m)

    addressed : (x : GivenFile) → Member x.dest (addresses q) → Member x.dest (addresses q')
    addressed x m = subst (λ (k : Address × List Address). Member x.dest (k.0 ∷ k.1)) (λ i. (sym b.first i, sym b.others i)) m
