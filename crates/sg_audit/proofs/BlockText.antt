-- The text of a block, line by line.
use Rattle.std.proofs.Common.{◌≡◌, ℕ, ◌+◌, ◌≤◌, true, false, List, [], ◌∷◌, ◌++◌, length, take, Some, None, Ok, Err, Result, refl, sym, ap, ◌∙◌, arith, append_assoc, append-nil, length-append}
use Rattle.std.specs.Prelude.{Option, option_map, is_err, not, codes}
use Rattle.std.specs.List.{concat}
use Rattle.std.proofs.lemmas.Bool.{not-false}
use Rattle.sg_protocol.specs.Graph.{Graph}
use Rattle.sg_parse.specs.Reading.{Parsed, on, after, give, whole, statement, up_to, read as parsed, read_beginning, read_head, read_role, read_variables, read_nodes, read_edges, read_statements, read_end}
use Rattle.sg_parse.specs.Tokens.{tokens}
use Rattle.sg_parse.specs.declared.fault.ParseFault.{ParseFault}
use Rattle.sg_sched.specs.Text.{lines}
use Rattle.sg_sched.proofs.TextLaws.{joined, take_prefix}
use Rattle.sg_sched.specs.Format.Spells.{Line, closes}
use Rattle.sg_audit.specs.Read.{begins_block, begins_graph, block_text, first_block, read_block, with_graph}
use Rattle.sg_audit.specs.Spells.{WrongLine}
use Rattle.sg_audit.specs.declared.fault.Mistake.TheVariants.{Form}

-- ---- a search

-- of the lines from number n + 1 on, which join to these bytes, those up to line m make the text so far, and these are left
pub record Searched (bytes : List ℕ) (n : ℕ) (all : List Line) (end m : ℕ) (left : List Line) : Type 0 where
  pub text : List ℕ
  pub joins : bytes ≡ text ++ concat left
  pub long : end ≡ length text
  pub reads : read_block n [] all ≡ read_block m text left
  pub texts : block_text all ≡ option_map (λ t. text ++ t) (block_text left)

same_option : (o : Option (List ℕ)) → o ≡ option_map (λ t. [] ++ t) o
same_option None = refl
same_option (Some t) = refl

pub begun : (bytes : List ℕ) (n : ℕ) (all : List Line) → all ≡ lines bytes → Searched bytes n all 0 n all
begun bytes n all is = record { text = []; joins = sym (ap concat is ∙ joined bytes); long = refl; reads = refl; texts = same_option (block_text all) }

twice : (xs ys : List ℕ) (o : Option (List ℕ)) → option_map (λ t. xs ++ t) (option_map (λ t. ys ++ t) o) ≡ option_map (λ t. (xs ++ ys) ++ t) o
twice xs ys None = refl
twice xs ys (Some t) = ap Some (sym (append_assoc xs ys t))

module _ (bytes : List ℕ) (n : ℕ) (all : List Line) (end m : ℕ) (left : List Line) (s : Searched bytes n all end m left) where
  text_is : take end bytes ≡ s.text
  text_is = ap (λ k. take k bytes) s.long ∙ ap (take (length s.text)) s.joins ∙ take_prefix s.text (concat left)

  -- the bytes are as many as were passed, or more
  pub inside : end ≤ length bytes
  inside =
      let long = s.long in
      let a = ap (λ (xs : List ℕ). length xs) s.joins in
      let b = length-append s.text (concat left) in
      omega (arith, long, a, b)

  -- no line is left, so the block isn't closed
  pub open_block : left ≡ [] → read_block n [] all ≡ Err (WrongLine m Form)
  open_block e = s.reads ∙ ap (read_block m s.text) e

  pub no_text : left ≡ [] → block_text all ≡ None
  no_text e = s.texts ∙ ap (λ xs. option_map (λ t. s.text ++ t) (block_text xs)) e

  module _ (line : Line) (ls : List Line) (k : ℕ) (e : left ≡ line ∷ ls) (next : k ≡ m + 1) where
    -- the bytes go on for as long as the line
    pub within : end + length line ≤ length bytes
    within =
        let long = s.long in
        let a = ap (λ (xs : List ℕ). length xs) (s.joins ∙ ap (λ xs. s.text ++ concat xs) e) in
        let b = length-append s.text (line ++ concat ls) in
        let c = length-append line (concat ls) in
        omega (arith, long, a, b, c)

    -- a line that doesn't close the block
    pub onward : closes line ≡ false → Searched bytes n all (end + length line) k ls
    onward other =
        let long = s.long in
        let sum = length-append s.text line in
        record {
          text = s.text ++ line;
          joins = s.joins ∙ ap (λ xs. s.text ++ concat xs) e ∙ sym (append_assoc s.text line (concat ls));
          long = omega (arith, long, sum);
          reads = s.reads ∙ ap (read_block m s.text) e ∙ passed other ∙ ap (λ j. read_block j (s.text ++ line) ls) (sym next);
          texts = s.texts ∙ ap (λ xs. option_map (λ t. s.text ++ t) (block_text xs)) e ∙ more other ∙ twice s.text line (block_text ls);
        }
      where
        passed : closes line ≡ false → read_block m s.text (line ∷ ls) ≡ read_block (m + 1) (s.text ++ line) ls
        passed h = rw h refl

        more : closes line ≡ false → option_map (λ t. s.text ++ t) (block_text (line ∷ ls)) ≡ option_map (λ t. s.text ++ t) (option_map (λ t. line ++ t) (block_text ls))
        more h = rw h refl

    -- the line that closes the block
    pub closed : closes line ≡ true → read_block n [] all ≡ with_graph (parsed (take end bytes)) (k + 1) ls
    closed h = s.reads ∙ ap (read_block m s.text) e ∙ ends h ∙ ap (λ t. with_graph (parsed t) (m + 1 + 1) ls) (sym text_is) ∙ ap (λ j. with_graph (parsed (take end bytes)) (j + 1) ls) (sym next)
      where
        ends : closes line ≡ true → read_block m s.text (line ∷ ls) ≡ with_graph (parsed s.text) (m + 1 + 1) ls
        ends h = rw h refl

    pub text_there : closes line ≡ true → block_text all ≡ Some (take end bytes)
    text_there h = s.texts ∙ ap (λ xs. option_map (λ t. s.text ++ t) (block_text xs)) e ∙ ends h ∙ ap Some (append-nil s.text ∙ sym text_is)
      where
        ends : closes line ≡ true → option_map (λ t. s.text ++ t) (block_text (line ∷ ls)) ≡ Some (s.text ++ [])
        ends h = rw h refl

-- ---- the beginning of the text

first_step : {A B : Type 0} (r : Result A ParseFault) (k : Result A ParseFault → Result B ParseFault) (g : B) → ((e : ParseFault) → k (Err e) ≡ Err e) → k r ≡ Ok g → is_err r ≡ false
first_step (Err e) k g stop h = (let both : Err e ≡ Ok g = sym (stop e) ∙ h in absurd (cc))
first_step (Ok x) k g stop h = refl

-- a graph's text begins with its name and a role
pub begins : (text : List ℕ) (g : Graph) → parsed text ≡ Ok g → begins_graph (Some text) ≡ true
begins text g h = ap not (by_head (read_head (tokens text)) h)
  where
    by_head : (r : Result (Parsed Graph) ParseFault) → whole (on r (λ g. after (read_statements g) λ g. after read_end λ _. give g)) ≡ Ok g
        → is_err (on r (λ g. statement (codes "role") read_role g)) ≡ false
    by_head (Err e) h = absurd (cc)
    by_head (Ok p) h =
        first_step (statement (codes "role") read_role p.value p.rest)
        (λ r. whole (on (on (on r (λ g. after (statement (codes "role") read_role g) λ g. up_to 14 (codes "role") read_role g)) (λ g. after (read_variables g) λ g. after (read_nodes g) λ g. read_edges g))
        (λ g. after read_end λ _. give g)))
        g (λ e. refl) h

-- so does the block's
pub begins_there : (ls : List Line) (text : List ℕ) (g : Graph) → block_text ls ≡ Some text → parsed text ≡ Ok g → begins_graph (block_text ls) ≡ true
begins_there ls text g there h = ap begins_graph there ∙ begins text g h

-- a block whose text doesn't
pub begins_not : (ls : List Line) (text : List ℕ) → block_text ls ≡ Some text → begins_graph (block_text ls) ≡ false → is_err (read_beginning (tokens text)) ≡ true
begins_not ls text there h = not-false (is_err (read_beginning (tokens text))) (sym (ap begins_graph there) ∙ h)

-- the block with which the lines begin
pub same_block : (all left : List Line) → first_block all ≡ block_text left → begins_block all ≡ false → begins_graph (block_text left) ≡ false
same_block all left e h = sym (ap begins_graph e) ∙ h
