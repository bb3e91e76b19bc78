pub mod Files
pub mod Single
pub mod OnePass
pub mod Origins
