-- The AP acts: what the code stores and tells is what the definition says, or the refusal.
-- Assumes nothing.
use Prim.Native.Nat.{ℕ, ◌<◌, ◌≤◌}
use mathlib.Core.Path.{◌≡◌, refl, sym, ap, ◌∙◌}
use mathlib.Core.Bool.{Bool, true, false, cond, not}
use mathlib.Core.List.{List, [], ◌∷◌, map}
use Rattle.std.specs.Prelude.{Option}
use borrow.Author.Tests.{lt-ltb, le-ltb, ne_eqb}
use lib.Dec.{T, ltb}
use lib.ListN.{length, replicate, length-map}
use Rattle.lists.specs.Table.{Test, first_of, accepts}
use Rattle.lists.specs.Search.{index_by}
use Rattle.lists.proofs.Tables.{refusing, in_parts}
use Rattle.machine.specs.Stations.{Station, is_group}
use Rattle.machine.specs.Associations.{padded}
use Rattle.machine.specs.Packets.{Outgoing, carried}
use Rattle.machine.specs.AccessPoint as machine
use Rattle.machine.specs.AccessPoint.{quietly, origin_of, join_tests, join_from, leave_by, tick_by}
use Rattle.machine.specs.Events.{group_address, holds}
use Rattle.machine.specs.Lone.{written_all}
use Rattle.machine.specs.Moves.{nothing}
use Rattle.machine.proofs.Wire.{carried_octets}
use Rattle.structs.specs.declared.AccessPoint.{AccessPoint}
use Rattle.structs.specs.declared.LoneAccessPoint.{LoneAccessPoint}
use Rattle.record.specs.Lens.{get_point, put_point}
use Rattle.structs.specs.Lists.{get_associations}
use Rattle.record.specs.Valid.{valid_lone_record}
use Rattle.associations.specs.Rows.{is_of}
use Rattle.associations.proofs.Laws.{holds_at}
use Rattle.access_point.specs.Outside.{with_record}
use Rattle.in_flight.specs.Post.{outbox_of}
use Rattle.in_flight.proofs.Posted.{outbox_got}
use Rattle.actions.specs.Done.{Done, done_by, unchanged_by, decided, off_floor, join_of, tick_of}
use Rattle.alone.specs.Told.{Told, told_of, reply_with, answered, receivers_of, reply_to, front_of, done_alone, too_short, acts_unless, not_valid_test, join_alone, leave_alone, tick_alone, who_alone}
use Rattle.alone.specs.Front.{octets_in_all, receiver, outbox_octets, outbox_receivers, Posted, posted_of, posted_into, tell}
use Rattle.alone.proofs.Within.{number_within}
use Rattle.structs.specs.declared.Outbox.{Outbox}
use lib.Seq.{length-take-le}

-- What is posted

module _ (n : ℕ) (o : Outbox) (g : ℕ) (b : List ℕ) where
  pub posted_refused : (n ≡ 0 → ⊥) → posted_of (reply_with n) b ≡ posted_into n o g b
  unfolding posted_into
  posted_refused h = rw (ne_eqb n 0 h)

  pub posted_short : n ≡ 0 → length b < length (outbox_octets o) → posted_of (reply_with 10) b ≡ posted_into n o g b
  unfolding posted_into
  posted_short e h = rw (e, lt-ltb (length b) (length (outbox_octets o)) h)

  pub posted_written : n ≡ 0 → length (outbox_octets o) ≤ length b
      → posted_of (record { answer = 0; sent = o.count; given_up = g; held = 0; to = outbox_receivers o; len = length (outbox_octets o) }) (front_of (outbox_octets o) b) ≡ posted_into n o g b
  unfolding posted_into
  posted_written e h = rw (e, le-ltb (length b) (length (outbox_octets o)) h)

-- What is carried, written and received

octets_sent : (b : ℕ) (xs : List Outgoing) → octets_in_all (map (carried b) xs) ≡ written_all xs
unfolding written_all
octets_sent b [] = refl
octets_sent b (x ∷ xs) = rw (carried_octets b x, octets_sent b xs)

receivers_sent : (b : ℕ) (xs : List Outgoing) → map receiver (map (carried b) xs) ≡ map (λ (x : Outgoing). x.to) xs
unfolding carried
receivers_sent b [] = refl
receivers_sent b (x ∷ xs) = ap (λ (l : List ℕ). x.to ∷ l) (receivers_sent b xs)

module _ (b : ℕ) (xs : List Outgoing) where
  octets_are : outbox_octets (outbox_of (map (carried b) xs)) ≡ written_all xs
  unfolding outbox_octets
  octets_are = ap octets_in_all (outbox_got (map (carried b) xs)) ∙ octets_sent b xs

  receivers_are : outbox_receivers (outbox_of (map (carried b) xs)) ≡ receivers_of xs
  unfolding outbox_receivers
  receivers_are = ap (padded 8) (ap (map receiver) (outbox_got (map (carried b) xs)) ∙ receivers_sent b xs)

  count_is : (outbox_of (map (carried b) xs)).count ≡ length xs
  unfolding outbox_of
  count_is = length-map xs (carried b)

-- What is told

pub tell_done : (l : LoneAccessPoint) (d : Done) (p : Posted) → p.reply.answer ≡ 0
    → told_of (record { lone = with_record d.point l; reply = p.reply }) p.buffer ≡ tell l d p
tell_done l d p e = rw e

pub tell_refused : (l : LoneAccessPoint) (d : Done) (p : Posted) → (p.reply.answer ≡ 0 → ⊥)
    → told_of (record { lone = l; reply = p.reply }) p.buffer ≡ tell l d p
tell_refused l d p h = rw (ne_eqb p.reply.answer 0 h)

module _ (l : LoneAccessPoint) (b : ℕ) (y : machine.Action) (buffer : List ℕ) where
  -- as the code posts it
  abbrev tell_posted : Done → Told
  tell_posted d = tell l d (posted_into d.answer d.sent d.given_up buffer)

  -- the octets o, the receivers rs and the count c of what is sent
  abbrev tell_sent : List ℕ → List ℕ → ℕ → Told
  tell_sent o rs c =
      tell l (done_by b l.point y)
      (cond (ltb (length buffer) (length o)) (posted_of (reply_with 10) buffer)
      (posted_of (record { answer = 0; sent = c; given_up = length y.happened.given_up; held = 0; to = rs; len = length o }) (front_of o buffer)))

  by_room : (t : Bool) → ltb (length buffer) (length (written_all y.sends)) ≡ t
      → tell_sent (written_all y.sends) (receivers_of y.sends) (length y.sends)
      ≡ cond (accepts (cond t 10 0)) (done_alone y l buffer) (told_of (answered (cond t 10 0) l) buffer)
  unfolding done_alone reply_to done_by
  by_room true e = rw e
  by_room false e = rw e

  posts : tell_posted (done_by b l.point y) ≡ tell_sent (written_all y.sends) (receivers_of y.sends) (length y.sends)
  unfolding done_by posted_into
  posts = λ i. tell_sent (octets_are b y.sends i) (receivers_are b y.sends i) (count_is b y.sends i)

  refuses : (m : ℕ) → accepts m ≡ false → tell_posted (unchanged_by m l.point) ≡ told_of (answered m l) buffer
  unfolding posted_into
  refuses m e = rw (e, e)

  -- the tests ts decide: before them, the code's test o and the definition's f do not apply
  pub acted : (o f : Test) (ts : List Test) → T (refusing ts) → o.0 ≡ false → f.0 ≡ false
      → (d : Done) → d ≡ decided (o ∷ ts) b l.point y → tell_posted d ≡ acts_unless (f ∷ ts) y l buffer
  unfolding acts_unless decided
  acted o f ts r eo ef d e =
      ap tell_posted e
      ∙ rw (eo, ef, in_parts ts (too_short y buffer ∷ []) r) (go (first_of ts) (accepts (first_of ts)) refl)
    where
      go : (m : ℕ) (q : Bool) → accepts m ≡ q
          → tell_posted (cond q (done_by b l.point y) (unchanged_by m l.point))
          ≡ cond (accepts (cond q (cond (ltb (length buffer) (length (written_all y.sends))) 10 0) m)) (done_alone y l buffer) (told_of (answered (cond q (cond (ltb (length buffer) (length (written_all y.sends))) 10 0) m) l) buffer)
      go m true e = posts ∙ by_room (ltb (length buffer) (length (written_all y.sends))) refl
      go m false e = refuses m e ∙ rw e

-- 14 is the first of a call's tests
pub not_valid : (l : LoneAccessPoint) (ts : List Test) (y : machine.Action) (b : List ℕ) → valid_lone_record l ≡ false → told_of (answered 14 l) b ≡ acts_unless (not_valid_test l ∷ ts) y l b
unfolding acts_unless
not_valid l ts y b e = rw e

-- The calls of a valid record: 11 of the action does not apply to the AP's own number

module _ (l : LoneAccessPoint) (v : valid_lone_record l ≡ true) where
  on_floor : (off_floor l.ap_count l.number).0 ≡ false
  on_floor = ap not (lt-ltb l.number l.ap_count (number_within l v))

  no_14 : (not_valid_test l).0 ≡ false
  no_14 = ap not v

  pub join_told : (s : Station) (n : ℕ) (old : Option ℕ) (c b : List ℕ) (d : Done)
      → d ≡ join_of l.number l.ap_count l.timeout l.resend_limit s n old c l.point
      → tell l d (posted_into d.answer d.sent d.given_up b) ≡ join_alone l s n old c b
  unfolding join_of join_alone group_address
  join_told s n old c b d e =
      let o = origin_of l.ap_count l.number old in
      acted l l.number (join_from o l.ap_count l.timeout l.resend_limit 0 l.number s n c (get_point l.point)) b
      (off_floor l.ap_count l.number) (not_valid_test l)
      (group_address s ∷ (ltb 4095 n, 7) ∷ (ltb 64 (length c), 9) ∷ join_tests o s n (get_point l.point))
      tt on_floor no_14 d e

  pub tick_told : (b : List ℕ) (d : Done) → d ≡ tick_of l.number l.ap_count l.timeout l.point
      → tell l d (posted_into d.answer d.sent d.given_up b) ≡ tick_alone l b
  unfolding tick_of tick_alone
  tick_told b d e =
      acted l l.number (tick_by l.timeout (get_point l.point)) b (off_floor l.ap_count l.number) (not_valid_test l) [] tt on_floor no_14 d e

-- leave and who

module _ (l : LoneAccessPoint) (s : Station) where
  -- leave sends nothing

  leave_by_lem : (g : Bool) → valid_lone_record l ≡ true → is_group s ≡ g
      → cond g (told_of (answered 13 l) []) (told_of (record { lone = with_record (put_point l.point (leave_by s (get_point l.point)).point) l; reply = reply_with 0 }) [])
      ≡ acts_unless (not_valid_test l ∷ group_address s ∷ []) (leave_by s (get_point l.point)) l []
  unfolding acts_unless group_address done_alone reply_to leave_by quietly nothing written_all padded
  leave_by_lem true v g = rw (v, g)
  leave_by_lem false v g = rw (v, g)

  pub leave_group : valid_lone_record l ≡ true → is_group s ≡ true → answered 13 l ≡ leave_alone l s
  unfolding leave_alone
  leave_group v g = ap (λ (t : Told). t.outcome) (leave_by_lem true v g)

  pub leave_told : valid_lone_record l ≡ true → is_group s ≡ false → (a : AccessPoint) → a ≡ put_point l.point (leave_by s (get_point l.point)).point
      → record { lone = with_record a l; reply = reply_with 0 } ≡ leave_alone l s
  unfolding leave_alone
  leave_told v g a e =
      ap (λ (a : AccessPoint). record { lone = with_record a l; reply = reply_with 0 }) e ∙ ap (λ (t : Told). t.outcome) (leave_by_lem false v g)

  -- who
  pub who_invalid : valid_lone_record l ≡ false → answered 14 l ≡ who_alone l s
  unfolding who_alone
  who_invalid e = rw e

  pub who_group : valid_lone_record l ≡ true → is_group s ≡ true → answered 13 l ≡ who_alone l s
  unfolding who_alone group_address
  who_group v g = rw (v, g)

  -- whether the place where the row was looked for is one that is used
  holds_by : (j : ℕ) (b : Bool) → l.point.associations.count ≤ length l.point.associations.items
      → j ≡ index_by (is_of s) (get_associations l.point.associations) → ltb j l.point.associations.count ≡ b → holds s (get_point l.point) ≡ b
  unfolding holds get_point
  holds_by j b h e q =
      holds_at s (get_associations l.point.associations)
      ∙ rw (sym e, length-take-le l.point.associations.count l.point.associations.items h) q

  pub who_told : valid_lone_record l ≡ true → is_group s ≡ false → (j : ℕ) (b : Bool) → l.point.associations.count ≤ length l.point.associations.items
      → j ≡ index_by (is_of s) (get_associations l.point.associations) → ltb j l.point.associations.count ≡ b
      → record { lone = l; reply = record { answer = 0; sent = 0; given_up = 0; held = cond b 1 0; to = replicate 8 0; len = 0 } } ≡ who_alone l s
  unfolding who_alone group_address
  who_told v g j b h e q = rw (v, g, holds_by j b h e q)
