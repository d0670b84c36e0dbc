-- A text is copied, made durable and read.
use Rattle.std.proofs.Common.{◌≡◌, inl, inr, ℕ, ◌≤◌, Bool, true, List, length, Option, Some, Result, Ok, Err, sym, ◌∙◌, ap, subst, arith}
use Rattle.std.specs.Prelude.{◌⊎◌, option_map, cond, IfOk, IfErr}
use Rattle.std.proofs.lemmas.Bool.{lt-ltb, le-ltb}
use Rattle.disk_model.specs.World.{World, OutFile}
use Rattle.disk_model.specs.Answers.{stat_of, CopiedOf, Copies}
use Rattle.disk_model.specs.Changes.{Every, Follows, Same, SameAt}
use Rattle.disk_model.specs.Moments.{Now, Leaves}
use Rattle.disk_model.specs.declared.answers.Copied.{Copied}
use Rattle.disk_model.specs.declared.answers.Copied.TheVariants.{Copied as CopiedAll, Absent as NoSource, Over}
use Rattle.disk_model.specs.declared.answers.OutStat.{OutStat}
use Rattle.nodelist_comp.specs.List.{compiled}
use Rattle.nodelist_files.specs.Files.{new_name}
use Rattle.nodelist_files.specs.Compiling.{text_at, judged, counted, MayCome}
use Rattle.nodelist_files.specs.Staging.{IsCopied, IsPrepared, IsStaged}
use Rattle.nodelist_files.specs.declared.fault.CompileFault.{CompileFault}
use Rattle.nodelist_files.specs.declared.fault.CompileFault.TheVariants.{NoFile, NoMemory}

some_same : {A : Type 0} (a b : A) → Some a ≡ Some b → a ≡ b
some_same a b is = cc is

-- what a text of at most so many bytes comes to is what its lines do
judged_short : (text : List ℕ) → length text ≤ 16777216 → judged (Some text) ≡ counted (compiled text)
judged_short text few = ap (λ (b : Bool). cond b (Err NoFile) (counted (compiled text))) (le-ltb 16777216 (length text) few)

-- no file, and one of too many bytes
pub absent : (path : List ℕ) (w : World) → CopiedOf NoSource 16777216 (w.outside path) → judged (text_at path w) ≡ Err NoFile
absent path w none = ap (λ (f : Option OutFile). judged (option_map (λ (file : OutFile). file.bytes) f)) none

pub over : (path : List ℕ) (w : World) → CopiedOf Over 16777216 (w.outside path) → judged (text_at path w) ≡ Err NoFile
over path w file =
    ap (λ (f : Option OutFile). judged (option_map (λ (file : OutFile). file.bytes) f)) file.1
    ∙ ap (λ (b : Bool). cond b (Err NoFile) (counted (compiled file.0.bytes))) (lt-ltb 16777216 (length file.0.bytes) file.2)

-- a file that was copied, as what a sync made durable
pub copied : {D : Type 0} (files : D → World → Type 0) (moment : D → ℕ) (images : D → ℕ → World → Type 0) (path name : List ℕ) (named : name ≡ new_name) (answer : Copied) (stat : OutStat) (is : answer ≡ CopiedAll stat) (d0 d1 d2 : D)
    → Every (files d0) (λ w. CopiedOf answer 16777216 (w.outside path)) → Follows (Copies (Ok answer) path name 16777216) (files d0) (files d1)
    → Follows (SameAt name) (files d1) (Now moment images d2) → Follows (IsCopied path stat.size) (files d0) (Now moment images d2)
copied files moment images path name named answer stat is d0 d1 d2 told copies durable c now =
    let read = durable c now in
    let was = copies read.0 read.1 in
    let source = subst (λ (a : Copied). CopiedOf a 16777216 (was.0.outside path)) is (told was.0 was.1) in
    let made = subst (λ (a : Copied). Copies (Ok a) path name 16777216 was.0 read.0) is was.2 in
    let f = made.0 in
    let same : source.0 ≡ f = some_same source.0 f (sym source.1 ∙ made.1) in
    let stat_is : stat ≡ stat_of f = source.2 ∙ ap stat_of same in
    let size : stat.size ≡ length f.bytes = ap (λ (s : OutStat). s.size) stat_is in
    let few : length f.bytes ≤ 16777216 = subst (λ (g : OutFile). length g.bytes ≤ 16777216) same source.3 in (
      was.0,
      was.1,
      record {
        text = f.bytes;
        file = ap (option_map (λ (file : OutFile). file.bytes)) made.1;
        own = ap c.own (sym named) ∙ read.2 ∙ made.2.own.here;
        size = size;
        few = omega (arith, size, few);
      },
    )

module _ {D : Type 0} (tells : Bool) (content : D → World) (files : D → World → Type 0) (moment : D → ℕ) (images : D → ℕ → World → Type 0)
    (reads : (d : D) (w : World) → files d w → (tells ≡ true) × (w ≡ content d)) (told : tells ≡ true → (d : D) → files d (content d)) (as_read : (d : D) (w : World) → files d w → images d (moment d) w)
    (path : List ℕ) (len : ℕ) (d0 d1 : D) (copy : Follows (IsCopied path len) (files d0) (Now moment images d1)) where
  -- its length is that of the own file
  pub has_length : (name : List ℕ) → name ≡ new_name → Every (files d1) (λ w. Some len ≡ option_map length (w.own name))
  has_length name named w read =
      let was = copy w (as_read d1 w read) in
      ap Some was.2.size ∙ ap (option_map length) (sym was.2.own) ∙ ap (λ (n : List ℕ). option_map length (w.own n)) (sym named)

  module _ (name : List ℕ) (named : name ≡ new_name) (text : List ℕ) (buffer : Every (files d1) (λ w. w.own name ≡ Some text)) where
    -- what was read is the outside file
    record IsRead (w : World) : Type 0 where
      pub file : text_at path w ≡ Some text
      pub few : length text ≤ 16777216

    is_read : (w : World) → files d0 w → IsRead w
    is_read w there =
        let tell = reads d0 w there in
        let c = content d1 in
        let here = told tell.0 d1 in
        let was = copy c (as_read d1 c here) in
        let one : was.0 ≡ w = (reads d0 was.0 was.1).1 ∙ sym tell.1 in
        let same : was.2.text ≡ text = some_same was.2.text text (sym was.2.own ∙ ap c.own (sym named) ∙ buffer c here) in
        let size : len ≡ length text = was.2.size ∙ ap length same in
        let few = was.2.few in
        record {
          file = ap (text_at path) (sym one) ∙ was.2.file ∙ ap Some same;
          few = omega (arith, size, few);
        }

    pub judged_so : (w : World) → files d0 w → judged (text_at path w) ≡ counted (compiled text)
    judged_so w there = let is = is_read w there in ap judged is.file ∙ judged_short text is.few

    pub refused_so : (fault : CompileFault) → counted (compiled text) ≡ Err fault → Every (files d0) (λ w. judged (text_at path w) ≡ Err fault)
    refused_so fault is w there = judged_so w there ∙ is

    -- and it stands
    stands : (d2 : D) → Leaves moment images Same d1 d2 → Every (Now moment images d2) (λ w. w.own new_name ≡ Some text)
    stands d2 run c now =
        let before = run.each (moment d2) c run.grew.later (omega arith) now in
        let was = copy before.0 before.1 in
        let is = is_read was.0 was.1 in
        ap (λ (w : World). w.own new_name) before.2 ∙ was.2.own ∙ sym was.2.file ∙ is.file

    pub staged : (d2 : D) → Leaves moment images Same d1 d2 → (index : List ℕ) (count : ℕ) → IsPrepared text index count → IsStaged (files d0) (Now moment images d2) path index count
    staged d2 run index count made = record {
      text = text;
      nodes = made.nodes;
      has = record { file = λ w there. (is_read w there).file; spells = made.spells };
      judged = λ w there. judged_so w there ∙ ap counted made.spells ∙ ap (λ (n : ℕ). Ok n) (sym made.count);
      index = made.index;
      stands = stands d2 run;
    }

    -- the same of what a function answered
    module _ {T : Type 0} (index : T → List ℕ) (count : T → ℕ) (given : List ℕ) (is_given : given ≡ text) where
      pub staged_so : (d2 : D) → Leaves moment images Same d1 d2 → (result : Result T CompileFault) → IfOk result (λ made. IsPrepared given (index made) (count made))
          → IfOk result (λ made. IsStaged (files d0) (Now moment images d2) path (index made) (count made))
      staged_so d2 run (Ok made) prepared = staged d2 run (index made) (count made) (subst (λ (t : List ℕ). IsPrepared t (index made) (count made)) is_given prepared)
      staged_so d2 run (Err e) prepared = tt

      pub unstaged_so : (result : Result T CompileFault) → IfErr result (λ fault. (fault ≡ NoMemory) ⊎ (counted (compiled given) ≡ Err fault))
          → IfErr result (λ fault. MayCome fault ⊎ Every (files d0) (λ w. judged (text_at path w) ≡ Err fault))
      unstaged_so (Ok made) why = tt
      unstaged_so (Err fault) (inl memory) = inl (inr memory)
      unstaged_so (Err fault) (inr is) = inr (refused_so fault (ap (λ (t : List ℕ). counted (compiled t)) (sym is_given) ∙ is))
