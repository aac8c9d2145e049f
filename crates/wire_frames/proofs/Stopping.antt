-- What a stream is where reading stops.
use Rattle.std.proofs.Common.{◌≡◌, ℕ, List, [], ◌∷◌, ◌++◌, length, Option, Some, None, sym, ap, subst, ◌∙◌, inl, inr, arith, append-nil, length-append}
use Rattle.std.specs.Io.KnownBytes.{Consumes}
use Rattle.std.proofs.lemmas.List.{take_all, take_at}
use Rattle.base_core.specs.Bytes.{num, num_at}
use Rattle.wire_frames.specs.{declared.stream.FrameStop.FrameStop, Stream.StopsReading, Stream.StopsStream}
use Rattle.wire_frames.specs.Frames.{AreBodies, HasBadLength, IsLength, frames}
use Rattle.wire_frames.specs.declared.stream.FrameStop.TheVariants as stop

-- four bytes that are a bad length are one also with others behind them
bad-more : (bytes more : List ℕ) → length bytes ≡ 4 → HasBadLength bytes → HasBadLength (bytes ++ more)
bad-more bytes more four has =
    let long = length-append bytes more in
    let same : num_at 4 (bytes ++ more) 0 ≡ num_at 4 bytes 0 = ap num (take_at bytes more 4 four ∙ sym (take_all 4 bytes (omega (arith, four)))) in
    record { long = omega (arith, four, long); bad = λ is. has.bad (subst IsLength same is) }

pub stops-stream : (stream : List ℕ) (bodies : List (List ℕ)) (mid left : Option (List ℕ)) (now : ℕ) (why : FrameStop)
    → AreBodies bodies → Consumes (Some stream) mid (frames bodies) → StopsReading why (length (frames bodies)) now mid left → StopsStream why stream bodies
stops-stream stream bodies None left now why are front stops = absurd front
stops-stream stream bodies (Some ys) None now stop.End are front stops = absurd stops.0
stops-stream stream bodies (Some ys) (Some zs) now stop.End are front stops = record {
  whole = front ∙ ap (λ (l : List ℕ). frames bodies ++ l) (stops.0 ∙ stops.1);
  each = are;
  no_more = inl (inl (omega arith));
}
stops-stream stream bodies (Some ys) None now stop.BadFrame are front (bytes, came, count, is) = absurd came
stops-stream stream bodies (Some ys) (Some zs) now stop.BadFrame are front (bytes, came, count, inl bad) =
    let long = length-append bytes zs in
    let four = bad.1 in (
      bytes ++ zs,
      record { whole = front ∙ ap (λ (l : List ℕ). frames bodies ++ l) came; each = are; no_more = inr (bad-more bytes zs bad.1 bad.0) },
      omega (arith, long, four),
    )
stops-stream stream bodies (Some ys) (Some zs) now stop.BadFrame are front (bytes, came, count, inr part) = (
  bytes,
  record {
    whole = front ∙ ap (λ (l : List ℕ). frames bodies ++ l) (came ∙ ap (λ (l : List ℕ). bytes ++ l) part.2 ∙ append-nil bytes);
    each = are;
    no_more = inl part.0;
  },
  part.1,
)
stops-stream stream bodies (Some ys) None now stop.TooLong are front (bytes, b, part, came, count, most) = absurd came
stops-stream stream bodies (Some ys) (Some zs) now stop.TooLong are front (bytes, b, part, came, count, most) =
    let whole = ap length front ∙ length-append (frames bodies) ys in
    let rest = ap length came ∙ length-append (bytes ++ b ∷ []) zs in
    let more = length-append bytes (b ∷ []) in
    omega (arith, whole, rest, more, count, most)
stops-stream stream bodies (Some ys) left now stop.Failed are front stops = tt
