-- What the calls of a reader add up to.
use Rattle.std.proofs.Common.{◌≡◌, ℕ, suc, List, [], ◌∷◌, ◌++◌, All, arith, refl, sym, ◌∙◌}
use Rattle.std.proofs.lemmas.List.{append_assoc, append-nil}
use Rattle.std.proofs.lemmas.List.Elements.{All-cons}
use Rattle.sg_stream.specs.Framed.{IsFrame, message, messages, BeginsMessage}
use Rattle.sg_stream.specs.Calls.{ReaderCall, Fed, Gave, MayHappen, fed, given}
use Rattle.sg_stream.proofs.Messages.{one_message}

-- each frame that was given has 1 to 60,000 bytes
pub given_frames : (left : List ℕ) (calls : List ReaderCall) (last : List ℕ) → MayHappen left calls last → All IsFrame (given calls)
given_frames left [] last happens = λ k d within. absurd (omega arith)
given_frames left (Fed piece ∷ calls) last happens = given_frames (left ++ piece) calls last happens
given_frames left (Gave frame ∷ calls) last happens =
    All-cons IsFrame frame (given calls) happens.1 (given_frames happens.0 calls last happens.3)

-- the bytes not taken before, and the pieces, are the messages of the frames and the bytes not taken after
pub fed_is_given : (left : List ℕ) (calls : List ReaderCall) (last : List ℕ) → MayHappen left calls last → left ++ fed calls ≡ messages (given calls) ++ last
fed_is_given left [] last happens = append-nil left ∙ happens
fed_is_given left (Fed piece ∷ calls) last happens =
    sym (append_assoc left piece (fed calls)) ∙ fed_is_given (left ++ piece) calls last happens
fed_is_given left (Gave frame ∷ calls) last happens =
    let before : left ≡ message frame ++ happens.0 = happens.2 in
    let after : happens.0 ++ fed calls ≡ messages (given calls) ++ last = fed_is_given happens.0 calls last happens.3 in
    rw (before, append_assoc, after, append_assoc) refl

-- a list of bytes is framed in one way
pub one_framing : (frames others : List (List ℕ)) (rest other : List ℕ) → All IsFrame frames → All IsFrame others → (¬ BeginsMessage rest) → (¬ BeginsMessage other) → messages frames ++ rest ≡ messages others ++ other → (frames ≡ others) × (rest ≡ other)
one_framing [] [] rest other each each' none none' same = (refl, same)
one_framing [] (f ∷ fs) rest other each each' none none' same =
    absurd (none (f, messages fs ++ other, each' 0 f (omega arith), same ∙ append_assoc (message f) (messages fs) other))
one_framing (f ∷ fs) [] rest other each each' none none' same =
    absurd (none' (f, messages fs ++ rest, each 0 f (omega arith), sym same ∙ append_assoc (message f) (messages fs) rest))
one_framing (f ∷ fs) (g ∷ gs) rest other each each' none none' same =
    let whole : message f ++ (messages fs ++ rest) ≡ message g ++ (messages gs ++ other) =
    sym (append_assoc (message f) (messages fs) rest) ∙ (same ∙ append_assoc (message g) (messages gs) other) in
    let first = one_message f (messages fs ++ rest) g (messages gs ++ other) (each 0 f (omega arith)) (each' 0 g (omega arith)) whole in
    let later = one_framing fs gs rest other (λ k d within. each (suc k) d (omega (arith, within))) (λ k d within. each' (suc k) d (omega (arith, within))) none none' first.1 in
    (λ i. first.0 i ∷ later.0 i, later.1)
